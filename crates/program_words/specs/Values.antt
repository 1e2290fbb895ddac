-- What a request asks of its fold: the values of its settings, or their defaults. No definition of an answer cites them.
-- Source: this project.
use Rattle.std.specs.Prelude.{ℕ, Bool, false, List, Option, Some, None, unwrap_or}
use Rattle.program_words.specs.declared.executor.Executor.{Executor}
use Rattle.program_words.specs.declared.executor.Executor.TheVariants as executor
use Rattle.program_words.specs.declared.setting.Setting.{Setting}
use Rattle.program_words.specs.declared.setting.Setting.TheVariants as setting
use Rattle.program_words.specs.Executors.{executor_named}
use Rattle.program_words.specs.Numbers.{number_within, answer_named}
use Rattle.program_words.specs.Settings.{setting_name}
use Rattle.program_words.specs.Words.{value_in}
use Rattle.program_words.specs.Requests.{Request}

-- the value that a request gives to a setting, if it gives one
abbrev pub value_of : Setting → Request → Option (List ℕ)
value_of s r = value_in (setting_name s) r.settings

-- what a value says, or this where it isn't given
abbrev pub read_or : {A : Type 0} → A → (List ℕ → Option A) → Option (List ℕ) → A
read_or default read None = default
read_or default read (Some value) = unwrap_or (read value) default

-- in which way the loop is folded
abbrev pub executor_of : Request → Executor
executor_of r = read_or executor.Steal executor_named (value_of setting.Executor r)

-- up to which length no part is halved, unless there are very many items
abbrev pub base_of : Request → ℕ
base_of r = read_or 1024 (number_within 1 4294967296) (value_of setting.Base r)

-- how many workers there are
abbrev pub workers_of : Request → ℕ
workers_of r = read_or 4 (number_within 1 32) (value_of setting.Workers r)

-- whether a report is asked for
abbrev pub wants_report : Request → Bool
wants_report r = read_or false answer_named (value_of setting.Report r)

-- The settings of the program's commands, and what the value of each must be: one row for a setting, one rule for a row.
-- Source: this project.
use Rattle.std.specs.Prelude.{ℕ, Bool, not, ◌&&◌, ◌==◌, nat_le, List, length, codes, is_some}
use Rattle.std.specs.List.{list_all, slice_split}
use Rattle.program_words.specs.declared.setting.Setting.{Setting}
use Rattle.program_words.specs.declared.setting.Setting.TheVariants as setting
use Rattle.program_words.specs.declared.setting.Rule.{Rule}
use Rattle.program_words.specs.declared.setting.Rule.TheVariants as rule
use Rattle.program_words.specs.Executors.{executor_named}
use Rattle.program_words.specs.Numbers.{number_within, answer_named}

-- the name by which a setting is given
abbrev pub setting_name : Setting → List ℕ
setting_name setting.Loop = codes "loop"
setting_name setting.Data = codes "data"
setting_name setting.Executor = codes "executor"
setting_name setting.Base = codes "base"
setting_name setting.Workers = codes "workers"
setting_name setting.Report = codes "report"

-- what its value must be
abbrev pub rule_of : Setting → Rule
rule_of setting.Loop = rule.FileName
rule_of setting.Data = rule.FileNames
rule_of setting.Executor = rule.Executor
rule_of setting.Base = rule.Number 1 4294967296
rule_of setting.Workers = rule.Number 1 32
rule_of setting.Report = rule.YesNo

-- the name of a file isn't empty
abbrev pub is_name : List ℕ → Bool
is_name text = not (length text == 0)

-- the texts between the commas of a text, in order: without a comma it is the one of them
abbrev pub names_in : List ℕ → List (List ℕ)
names_in text = slice_split (λ b. b == 44) text

-- one to eight names
abbrev pub are_names : List ℕ → Bool
are_names text = nat_le (length (names_in text)) 8 && list_all is_name (names_in text)

-- whether a value keeps a rule
abbrev pub is_allowed : Rule → List ℕ → Bool
is_allowed rule.FileName value = is_name value
is_allowed rule.FileNames value = are_names value
is_allowed rule.Executor value = is_some (executor_named value)
is_allowed (rule.Number least most) value = is_some (number_within least most value)
is_allowed rule.YesNo value = is_some (answer_named value)

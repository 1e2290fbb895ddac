-- The request that words are, or their first refusal.
-- Source: this project.
use Rattle.std.specs.Prelude.{ℕ, List, [], ◌∷◌, ◌++◌, codes, is_some, Option, Some, None, Result, Ok, Err, if◌then◌else◌}
use Rattle.program_words.specs.declared.setting.Setting.{Setting}
use Rattle.program_words.specs.declared.command.Command.{Command}
use Rattle.program_words.specs.declared.command.Call.{Call}
use Rattle.program_words.specs.declared.command.Call.TheVariants as call
use Rattle.program_words.specs.Settings.{setting_name, rule_of, is_allowed}
use Rattle.program_words.specs.Commands.{settings_of, required_of, is_served, command_named, is_elsewhere}
use Rattle.program_words.specs.Words.{cut, value_in, setting_named, first_missing, first_of}

-- a command with its settings, each `name=value`
pub record Request : Type 0 where
  pub command : Command
  pub settings : List (List ℕ)

-- why the value in this word isn't taken for the setting: a word before gives it, or the value breaks its rule
abbrev pub value_refusal : Setting → List (List ℕ) → List ℕ → List ℕ → Option (List ℕ)
value_refusal s before word value =
    if is_some (value_in (setting_name s) before) then Some (codes "setting twice: " ++ setting_name s)
    else if is_allowed (rule_of s) value then None else Some (codes "bad value: " ++ word)

abbrev pub found_refusal : Option Setting → List (List ℕ) → List ℕ → List ℕ × List ℕ → Option (List ℕ)
found_refusal None before word parts = Some (codes "unknown setting: " ++ parts.0)
found_refusal (Some s) before word parts = value_refusal s before word parts.1

-- why the word with this name and value isn't taken: the command has no such setting, or its value
abbrev pub name_refusal : Command → List (List ℕ) → List ℕ → List ℕ × List ℕ → Option (List ℕ)
name_refusal c before word parts = found_refusal (setting_named (settings_of c) parts.0) before word parts

abbrev pub parts_refusal : Command → List (List ℕ) → List ℕ → Option (List ℕ × List ℕ) → Option (List ℕ)
parts_refusal c before word None = Some (codes "not a setting: " ++ word)
parts_refusal c before word (Some parts) = name_refusal c before word parts

-- why a word isn't taken behind these words: it has no `=`, or for its name and value
abbrev pub word_refusal : Command → List (List ℕ) → List ℕ → Option (List ℕ)
word_refusal c before word = parts_refusal c before word (cut word)

-- the refusal of the first word that isn't taken, other words standing before them
abbrev pub first_refusal : Command → List (List ℕ) → List (List ℕ) → Option (List ℕ)
first_refusal c before [] = None
first_refusal c before (word ∷ words) = first_of (word_refusal c before word) (first_refusal c (before ++ word ∷ []) words)

-- why there is no request without a word
abbrev pub no_word : Call → List ℕ
no_word call.Direct = codes "usage: floop check, explain, run, pool or try, then name=value"
no_word call.Waiting = codes "not served here"

-- why there is no request whose first word is no command
abbrev pub no_command : Call → List ℕ → List ℕ
no_command call.Direct word = if is_elsewhere word then codes "not served here" else codes "unknown command: " ++ word
no_command call.Waiting word = codes "not served here"

abbrev pub with_all : Command → List (List ℕ) → Option Setting → Result Request (List ℕ)
with_all c settings (Some s) = Err (codes "missing setting: " ++ setting_name s)
with_all c settings None = Ok (record { command = c; settings = settings })

abbrev pub unless : Option (List ℕ) → Result Request (List ℕ) → Result Request (List ℕ)
unless (Some text) request = Err text
unless None request = request

-- the request of a command: the first refusal of its settings, then the first that is missing
abbrev pub checked : Command → List (List ℕ) → Result Request (List ℕ)
checked c settings = unless (first_refusal c [] settings) (with_all c settings (first_missing (required_of c) settings))

-- the request of a command, where the call serves it
abbrev pub command_request : Call → Command → List (List ℕ) → Result Request (List ℕ)
command_request call c settings = if is_served call c then checked c settings else Err (codes "not served here")

abbrev pub named_request : Call → List ℕ → Option Command → List (List ℕ) → Result Request (List ℕ)
named_request call word None settings = Err (no_command call word)
named_request call word (Some c) settings = command_request call c settings

-- The request that words are to a top call, or the text of their first refusal.
abbrev pub request_of : Call → List (List ℕ) → Result Request (List ℕ)
request_of call [] = Err (no_word call)
request_of call (word ∷ settings) = named_request call word (command_named word) settings

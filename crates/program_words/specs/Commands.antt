-- The commands of the program, and which settings each has: one row for a command.
-- Source: this project.
use Rattle.std.specs.Prelude.{ℕ, Bool, false, not, List, [], ◌∷◌, codes, bytes_eq, find, Option}
use Rattle.program_words.specs.declared.setting.Setting.{Setting}
use Rattle.program_words.specs.declared.setting.Setting.TheVariants as setting
use Rattle.program_words.specs.declared.command.Command.{Command}
use Rattle.program_words.specs.declared.command.Command.TheVariants as command
use Rattle.program_words.specs.declared.command.Call.{Call}
use Rattle.program_words.specs.declared.command.Call.TheVariants as call

abbrev pub commands : List Command
commands = command.Run ∷ command.Check ∷ command.Explain ∷ []

-- the word by which a command is given
abbrev pub command_word : Command → List ℕ
command_word command.Run = codes "run"
command_word command.Check = codes "check"
command_word command.Explain = codes "explain"

-- the settings that a command has
abbrev pub settings_of : Command → List Setting
settings_of command.Run =
    setting.Loop ∷ setting.Data ∷ setting.Executor ∷ setting.Base ∷ setting.Workers ∷ setting.Report ∷ []
settings_of command.Check = setting.Loop ∷ setting.Data ∷ []
settings_of command.Explain = setting.Loop ∷ setting.Data ∷ []

-- the settings that it must be given, in the order in which they are missed
abbrev pub required_of : Command → List Setting
required_of command.Run = setting.Loop ∷ []
required_of command.Check = setting.Loop ∷ []
required_of command.Explain = setting.Loop ∷ []

-- whether a command waits for other threads
abbrev pub waits : Command → Bool
waits command.Run = false
waits command.Check = false
waits command.Explain = false

-- each top call serves its own commands: those that don't wait, and those that wait
abbrev pub is_served : Call → Command → Bool
is_served call.Direct c = not (waits c)
is_served call.Waiting c = waits c

-- the command that a word is, if it is one
abbrev pub command_named : List ℕ → Option Command
command_named word = find (λ c. bytes_eq (command_word c) word) commands

-- whether a word is that of a command which the other call alone is to serve, and doesn't yet
abbrev pub is_elsewhere : List ℕ → Bool
is_elsewhere word = bytes_eq word (codes "pool")

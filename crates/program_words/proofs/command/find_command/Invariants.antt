use Rattle.std.proofs.Common.{◌≡◌, drop, bytes_eq, find}
use Rattle.program_words.specs.Commands.{command_word}
use Rattle.program_words.proofs.command.find_command.Given as goal

abbrev pub invariant-loop-command : goal.invariant-loop-command
invariant-loop-command l = find (λ c. bytes_eq (command_word c) l.word) l.commands ≡ find (λ c. bytes_eq (command_word c) l.word) (drop l.command-index l.commands)

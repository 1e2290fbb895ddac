use Rattle.std.proofs.Common.{◌≡◌, drop, bytes_eq, find}
use Rattle.program_words.specs.Executors.{executor_word}
use Rattle.program_words.proofs.executor.find_executor.Given as goal

abbrev pub invariant-loop-executor : goal.invariant-loop-executor
invariant-loop-executor l = find (λ e. bytes_eq (executor_word e) l.word) l.executors ≡ find (λ e. bytes_eq (executor_word e) l.word) (drop l.executor-index l.executors)

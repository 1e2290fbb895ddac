use Rattle.std.proofs.Common.{◌≡◌, length}
use Rattle.tower_tests.proofs.tests.groups.by_word.Given as goal

abbrev pub invariant-loop-word : goal.invariant-loop-word
invariant-loop-word l = length l.inputs.items ≡ l.word-index

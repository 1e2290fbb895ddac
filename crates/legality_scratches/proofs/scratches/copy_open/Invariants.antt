use Rattle.std.proofs.Common.{◌≡◌, ◌++◌, drop}
use Rattle.legality_scratches.proofs.scratches.copy_open.Given as goal

-- with the marks to come, these are all
abbrev pub invariant-loop-mark : goal.invariant-loop-mark
invariant-loop-mark l = l.copies ++ drop l.mark-index l.marks ≡ l.marks

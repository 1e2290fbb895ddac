use Rattle.std.proofs.Common.{◌≡◌, drop}
use Rattle.legality_lines.specs.Walks.{prints_checked}
use Rattle.legality_lines.proofs.walk.check_prints.Given as goal

-- the lines to come do the rest of the check
abbrev pub invariant-loop-print : goal.invariant-loop-print
invariant-loop-print l = prints_checked l.reducers (drop l.print-index l.prints) ≡ prints_checked l.reducers l.prints

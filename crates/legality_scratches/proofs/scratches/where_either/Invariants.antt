use Rattle.std.proofs.Common.{◌≡◌, ◌++◌}
use Rattle.legality_scratches.specs.Scans.{where_either}
use Rattle.legality_scratches.proofs.scratches.where_either.Given as goal

-- with the marks to come, these are all
abbrev pub invariant-loop-mark : goal.invariant-loop-mark
invariant-loop-mark l = l.met ++ where_either l.mark-iterator.a.rest.now l.mark-iterator.b.rest.now ≡ where_either l.left l.right

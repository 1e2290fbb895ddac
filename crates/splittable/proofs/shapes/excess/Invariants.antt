use Rattle.splittable.proofs.Excess.{IsSoFar}
use Rattle.splittable.proofs.shapes.excess.Given as goal

abbrev pub invariant-loop-len : goal.invariant-loop-len
invariant-loop-len l = IsSoFar l.lens l.len-index l.items

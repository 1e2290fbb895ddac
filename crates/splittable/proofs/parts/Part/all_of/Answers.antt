use Rattle.std.proofs.Common.{arith}
use Rattle.splittable.proofs.PartHalves.{whole_part}
use Rattle.splittable.proofs.parts.Part.all_of.Goals as goal

pub invariant_of-result : goal.invariant_of-result
invariant_of-result c = (rw c.requires.count (whole_part c.args.shape (omega (arith, c.requires.count, c.requires.some))), omega (arith, c.requires.count, c.requires.few))

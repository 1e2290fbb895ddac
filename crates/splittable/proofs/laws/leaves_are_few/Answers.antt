use Rattle.splittable.proofs.Leaves.{leaves_are_few}
use Rattle.splittable.proofs.laws.leaves_are_few.Goals as goal

pub returns : goal.returns
returns c = leaves_are_few

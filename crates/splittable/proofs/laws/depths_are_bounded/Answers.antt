use Rattle.splittable.proofs.Depths.{depth_bound}
use Rattle.splittable.proofs.laws.depths_are_bounded.Goals as goal

pub returns : goal.returns
returns c = depth_bound

use Rattle.splittable.proofs.Covers.{leaves_of_neighbours}
use Rattle.splittable.proofs.laws.leaves_of_neighbours.Goals as goal

pub returns : goal.returns
returns c = leaves_of_neighbours

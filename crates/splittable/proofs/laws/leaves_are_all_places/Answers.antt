use Rattle.splittable.proofs.Leaves.{places_of_leaves}
use Rattle.splittable.proofs.laws.leaves_are_all_places.Goals as goal

pub returns : goal.returns
returns c = places_of_leaves

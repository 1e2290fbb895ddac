use Rattle.splittable.proofs.Excess.{shortest_excess}
use Rattle.splittable.proofs.laws.excess_is_of_the_shortest_prefix.Goals as goal

pub returns : goal.returns
returns c = shortest_excess

use Rattle.splittable.proofs.Nesting.{node_lies}
use Rattle.splittable.proofs.laws.nodes_lie_in_the_shape.Goals as goal

pub returns : goal.returns
returns c = node_lies

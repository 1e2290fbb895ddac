use Rattle.splittable.proofs.Nesting.{node_halves}
use Rattle.splittable.proofs.Nodes.{halves_are_nodes}
use Rattle.splittable.proofs.laws.halves_of_a_node_are_nodes.Goals as goal

pub returns-clause-halves : goal.returns-clause-halves
returns-clause-halves c = λ lens least part node many. (node_halves lens least part node many).0

pub returns-clause-nodes : goal.returns-clause-nodes
returns-clause-nodes c = halves_are_nodes

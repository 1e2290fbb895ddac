use Rattle.splittable.proofs.Nodes.{for_smaller_parts}
use Rattle.splittable.proofs.laws.nodes_are_nodes_for_smaller_parts.Goals as goal

pub returns : goal.returns
returns c = for_smaller_parts

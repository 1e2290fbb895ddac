use Rattle.splittable.proofs.LeafList.{leaves_of_leaf, leaves_of_longer, leaves_under_node, neighbours_under_node}
use Rattle.splittable.proofs.Leaves.{leaves_of-some, leaves_of-none}
use Rattle.splittable.proofs.laws.leaves_of_a_node.Goals as goal

pub returns-clause-leaf : goal.returns-clause-leaf
returns-clause-leaf c = leaves_of_leaf

pub returns-clause-longer : goal.returns-clause-longer
returns-clause-longer c = leaves_of_longer

pub returns-clause-whole : goal.returns-clause-whole
returns-clause-whole c = leaves_of-some

pub returns-clause-none : goal.returns-clause-none
returns-clause-none c = leaves_of-none

pub returns-clause-leaves : goal.returns-clause-leaves
returns-clause-leaves c = leaves_under_node

pub returns-clause-order : goal.returns-clause-order
returns-clause-order c = neighbours_under_node

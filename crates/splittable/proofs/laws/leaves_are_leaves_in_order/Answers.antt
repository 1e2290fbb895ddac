use Rattle.splittable.proofs.LeafList.{leaves_are_leaves, leaves_are_neighbours}
use Rattle.splittable.proofs.Listed.{leaves_are_listed}
use Rattle.splittable.proofs.laws.leaves_are_leaves_in_order.Goals as goal

pub returns-clause-listed : goal.returns-clause-listed
returns-clause-listed c = leaves_are_listed

pub returns-clause-leaves : goal.returns-clause-leaves
returns-clause-leaves c = leaves_are_leaves

pub returns-clause-order : goal.returns-clause-order
returns-clause-order c = leaves_are_neighbours

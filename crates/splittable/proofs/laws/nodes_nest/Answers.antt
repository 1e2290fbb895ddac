use Rattle.splittable.proofs.Nesting.{shorter_lies_in, leaf_lies_in, lies_in_half, longer_is_halved}
use Rattle.splittable.proofs.laws.nodes_nest.Goals as goal

pub returns-clause-shorter : goal.returns-clause-shorter
returns-clause-shorter c = λ lens least a b na nb meet. shorter_lies_in lens least meet.0 a b na nb meet.1 meet.2

pub returns-clause-half : goal.returns-clause-half
returns-clause-half c = lies_in_half

pub returns-clause-halved : goal.returns-clause-halved
returns-clause-halved c = longer_is_halved

pub returns-clause-leaf : goal.returns-clause-leaf
returns-clause-leaf c = λ lens least a b la nb meet. leaf_lies_in lens least meet.0 a b la nb meet.1 meet.2

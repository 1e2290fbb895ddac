use Rattle.std.proofs.Common.{rules, ap}
use Rattle.part_deque.specs.Ends.{OwnerEnd}
use Rattle.part_deque.proofs.Keeps.{pops, finds, popped_is_node}
use Rattle.part_deque.proofs.owner.PartOwner.pop.Goals as goal

pub pop_as-part-requires-clause-lifo : goal.pop_as-part-requires-clause-lifo
pop_as-part-requires-clause-lifo c = λ _. pops _ _ c.self.invariant.port (search rules)

pub pop_as-part-requires-clause-empty : goal.pop_as-part-requires-clause-empty
pop_as-part-requires-clause-empty c = finds _ _ c.self.invariant.port

pub returns-else-is_none-clause-node : goal.returns-else-is_none-clause-node
returns-else-is_none-clause-node c =
    popped_is_node c.pop_as-part.result _ _ _ _ _ c.pop_as-part.ensures.rule (ap (λ (o : OwnerEnd). o.lens) c.self.view_is) (ap (λ (o : OwnerEnd). o.least) c.self.view_is)

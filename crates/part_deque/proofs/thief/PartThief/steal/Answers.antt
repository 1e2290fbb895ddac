use Rattle.std.proofs.Common.{subst}
use Rattle.splittable.specs.Nodes.{IsNode}
use Rattle.part_deque.specs.Ends.{ThiefEnd}
use Rattle.part_deque.specs.Rights.{account_of}
use Rattle.part_deque.proofs.Keeps.{takes, with_a_right}
use Rattle.part_deque.proofs.thief.PartThief.steal.Goals as goal

pub steal_as-requires-clause-takes : goal.steal_as-requires-clause-takes
steal_as-requires-clause-takes c = takes _ _ (with_a_right (account_of c.self.inside.right) c.self.invariant.right.weighs)

pub returns-in-Success-clause-node : goal.returns-in-Success-clause-node
returns-in-Success-clause-node c =
    subst (λ (t : ThiefEnd). IsNode t.lens t.least c.in-Success.part) c.self.view_is c.in-Success.ensures.rule.nodes.0

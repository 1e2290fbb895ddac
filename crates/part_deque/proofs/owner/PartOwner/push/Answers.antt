use Rattle.std.proofs.Common.{rules, subst, sym}
use Rattle.splittable.specs.Nodes.{IsNode}
use Rattle.part_deque.specs.Ends.{OwnerEnd}
use Rattle.part_deque.proofs.Keeps.{pushes}
use Rattle.part_deque.proofs.owner.PartOwner.push.Goals as goal

pub push_as-requires-clause-pushes : goal.push_as-requires-clause-pushes
push_as-requires-clause-pushes c =
    pushes _ _ _ c.self.invariant.port (search rules) (subst (λ (o : OwnerEnd). IsNode o.lens o.least c.args.part) (sym c.self.view_is) c.requires.node)

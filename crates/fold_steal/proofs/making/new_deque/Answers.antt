use Rattle.std.proofs.Common.{◌≡◌, ℕ, List, option_to_list, ap, sym, subst}
use Rattle.std.specs.List.{AllByRecursion}
use Rattle.splittable.specs.Nodes.{IsNode}
use Rattle.part_deque.specs.Ends.{OwnerEnd}
use Rattle.fold_steal.proofs.making.new_deque.Goals as goal

pub push-requires : goal.push-requires
push-requires c =
    let new = c.in_ok-owner.ensures.owner_is in
    let lens = ap (λ (o : OwnerEnd). o.lens) new in
    let least = ap (λ (o : OwnerEnd). o.least) new in
    let node = subst (λ dealt. AllByRecursion (IsNode c.args.shape.now c.args.least) (option_to_list dealt)) c.in-Some.is c.requires.node in
    record { node = subst (λ (p : List ℕ × ℕ). IsNode p.0 p.1 c.in-Some.part) (λ i. (sym lens i, sym least i)) node.0 }

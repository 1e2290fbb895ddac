use Rattle.std.proofs.Common.{rules, subst, sym, ap, ◌∙◌, ◌≡◌, All, ℕ, Global}
use Rattle.crossbeam_deque.specs.Handles.{worker_view, worker_deque, stealer_deque, view}
use Rattle.part_deque.specs.Ends.{OwnerEnd, ThiefEnd}
use Rattle.part_deque.specs.Rights.{IsSpare}
use Rattle.part_deque.proofs.Keeps.{merges}
use Rattle.part_deque.proofs.owner.PartOwner.join.Goals as goal

pub absorb-requires-clause-rule : goal.absorb-requires-clause-rule
absorb-requires-clause-rule c = merges (worker_view c.self.inside.worker) _ (view c.thief.inside.right) _ c.self.invariant.port (search rules)

pub absorb_all-requires-clause-spare : goal.absorb_all-requires-clause-spare
absorb_all-requires-clause-spare c =
    let one : (stealer_deque c.thief.inside.stealer).0 ≡ (worker_deque c.self.inside.worker).0 =
    ap (λ (t : ThiefEnd). t.deque) c.thief.view_is ∙ c.requires.deque ∙ sym (ap (λ (o : OwnerEnd). o.deque) c.self.view_is) in
    let deque : stealer_deque c.thief.inside.stealer ≡ worker_deque c.self.inside.worker = λ i. (one i, (stealer_deque c.thief.inside.stealer).1) in (
      (view c.thief.inside.right).lens,
      (view c.thief.inside.right).least,
      subst (λ (d : (ℕ × ℕ) × Global). All (IsSpare d (view c.thief.inside.right).lens (view c.thief.inside.right).least) c.thief.inside.spare.items) (deque ∙ sym c.absorb.ensures.same.0.0) c.thief.invariant.spare,
    )

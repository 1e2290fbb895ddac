use Rattle.std.proofs.Common.{◌≤◌, sym, ap, ◌∙◌, subst, rules}
use Rattle.loop_batch.proofs.Keeps.{may_draw}
use Rattle.loop_batch.proofs.claims.Claim.draw.Goals as goal

pub fetch_add-number-requires : goal.fetch_add-number-requires
fetch_add-number-requires c =
    let weighs = c.seat.invariant.weighs ∙ ap (λ s. s.weight) c.seat.view_is in
    (search rules, search rules, may_draw _ _ _ (subst (λ n. 1 ≤ n) (sym weighs) c.requires.weight))

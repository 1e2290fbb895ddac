use Rattle.std.proofs.Common.{◌≡◌, ◌<◌, ◌+◌, length, ap, sym, subst, ◌∙◌, arith}
use Rattle.std.specs.List.Sorted.{IsPermutation}
use Rattle.loop_batch.specs.Numbers.{whole_weight, numbers_below}
use Rattle.loop_batch.specs.Rule.{weight_and_draws}
use Rattle.loop_batch.proofs.Keeps.{closes}
use Rattle.loop_batch.proofs.claims.Claim.close.Goals as goal

pub free-requires : goal.free-requires
free-requires c k less =
    let there_is_none : k < 0 = subst (λ n. k < n) (c.close_with-closed.ensures.counts.1 ∙ c.self.invariant.1) less in
    absurd (omega arith)

pub returns-clause-count : goal.returns-clause-count
returns-clause-count c =
    let end = c.close_with-closed.ensures.values.2 in
    let whole : weight_and_draws c.seat.inside.seat.me.0 ≡ whole_weight =
    ap (λ n. n + length c.seat.inside.seat.me.0.drawn) c.seat.invariant.weighs ∙ ap (λ s. s.weight + length s.drawn) c.seat.view_is ∙ c.requires.whole in
    closes end.0 _ _ _ c.word-word.result end.1.0 end.1.1 end.2 c.word-word.ensures whole ∙ ap (λ s. length s.drawn) c.seat.view_is

pub returns-clause-drawn : goal.returns-clause-drawn
returns-clause-drawn c =
    let whole : weight_and_draws c.seat.inside.seat.me.0 ≡ whole_weight =
    ap (λ n. n + length c.seat.inside.seat.me.0.drawn) c.seat.invariant.weighs ∙ ap (λ s. s.weight + length s.drawn) c.seat.view_is ∙ c.requires.whole in
    let known : IsPermutation c.seat.inside.seat.me.0.drawn (numbers_below (length c.seat.inside.seat.me.0.drawn)) = c.seat.invariant.told.known whole in
    subst (λ n. IsPermutation c.args.seat.drawn (numbers_below n)) (sym (returns-clause-count c)) (subst (λ s. IsPermutation s.drawn (numbers_below (length s.drawn))) c.seat.view_is known)

-- The orders of preference are orders.
-- Source: this project.
use Rattle.std.specs.Cmp.{IsTotalOrder, IsStrictWeakOrder, on_total, back_total, then_total}
use Rattle.std.specs.declared.cmp.Ordering.{Ordering}
use Rattle.std.proofs.lemmas.List.MinMax.{ranks_by}
use Rattle.loop_results.specs.Extremes.{is_smaller, is_greater, is_smaller_at, is_greater_at}

module _ {T : Type 0} {cmp : T → T → Ordering} (total : IsTotalOrder cmp) where
  pub smaller_is_order : IsStrictWeakOrder (is_smaller cmp)
  smaller_is_order = ranks_by total (λ x. x)

  pub greater_is_order : IsStrictWeakOrder (is_greater cmp)
  greater_is_order = ranks_by (back_total total) (λ x. x)

  module _ {P : Type 0} {places : P → P → Ordering} (ordered : IsTotalOrder places) where
    pub smaller_at_is_order : IsStrictWeakOrder (is_smaller_at cmp places)
    smaller_at_is_order =
        ranks_by (then_total (on_total (λ (x : T × P). x.0) total) (on_total (λ (x : T × P). x.1) ordered)) (λ x. x)

    pub greater_at_is_order : IsStrictWeakOrder (is_greater_at cmp places)
    greater_at_is_order =
        ranks_by (then_total (on_total (λ (x : T × P). x.0) (back_total total)) (on_total (λ (x : T × P). x.1) ordered)) (λ x. x)

-- Places as the reducers count them, and as integers of the language.
use Rattle.std.proofs.Common.{◌≡◌, ℕ, ◌<◌, ◌≤◌, false, refl, ap, sym, ◌∙◌, true≢false, arith}
use Rattle.std.specs.Prelude.{◌≢◌, Bool, true, cond, nat_lt, ◌==◌, pos}
use Rattle.std.specs.Cmp.{IsTotalOrder, nat_cmp_total, ranked}
use Rattle.std.specs.Ordering.{is_lt, ordering_then, nat_cmp, int_cmp, MatchOrdering}
use Rattle.std.specs.declared.cmp.Ordering.{Ordering}
use Rattle.std.specs.declared.cmp.Ordering.TheVariants.{Less, Equal, Greater}
use Rattle.std.specs.Option.{option_map}
use Rattle.std.proofs.lemmas.Bool.{ltb-true, ltb-false}
use Rattle.std.proofs.lemmas.Bool.Decides.{Decides-eqb}
use Rattle.loop_results.specs.Extremes.{is_smaller_at, is_greater_at}
use Rattle.loop_results.specs.Orders.{smaller_at_is_order, greater_at_is_order}
use Rattle.loop_results.proofs.ExtremeLemmas.{best_of-map, first_is_best}
use Rattle.reducer_laws.specs.Laws.{at_int_place, LeastStatesSayResults, GreatestStatesSayResults}

not_less : (r : Ordering) (q p : ℕ) → MatchOrdering r (q < p) (q ≡ p) (p < q) → is_lt r ≡ false → p ≤ q
not_less Less q p h k = absurd (true≢false k)
not_less Equal q p h k = omega (arith, h)
not_less Greater q p h k = omega (arith, h)

pub at_most : (p q : ℕ) → is_lt (nat_cmp q p) ≡ false → p ≤ q
at_most p q h = not_less (nat_cmp q p) q p (ranked q p (nat_cmp q p) refl) h

greater_apart : (a b : ℕ) → b < a → a ≢ b
greater_apart a b h e = omega (arith, h, e)

alike : (a b : ℕ) (x y z : Bool) → nat_lt a b ≡ x → nat_lt b a ≡ y → (a == b) ≡ z → cond x Less (cond y Greater Equal) ≡ cond x Less (cond z Equal Greater)
alike a b true y z p q r = refl
alike a b false true true p q r = absurd (greater_apart a b (ltb-true b a q) ((Decides-eqb a b).0 r))
alike a b false true false p q r = refl
alike a b false false true p q r = refl
alike a b false false false p q r =
    let same : a ≡ b = omega (arith, ltb-false a b p, ltb-false b a q) in
    absurd (true≢false (sym ((Decides-eqb a b).1 same) ∙ r))

pub int_cmp-pos : (a b : ℕ) → int_cmp (pos a) (pos b) ≡ nat_cmp a b
int_cmp-pos a b = alike a b (nat_lt a b) (nat_lt b a) (a == b) refl refl refl

module _ {T : Type 0} (cmp : T → T → Ordering) (total : IsTotalOrder cmp) where
  pub least_said : LeastStatesSayResults cmp
  least_said state xs first =
      best_of-map at_int_place (is_smaller_at cmp nat_cmp) (is_smaller_at cmp int_cmp) (λ x y. ap (λ r. is_lt (ordering_then (cmp x.0 y.0) r)) (int_cmp-pos x.1 y.1)) xs
      ∙ ap (option_map at_int_place) (sym (first_is_best (smaller_at_is_order total nat_cmp_total) state xs first))

  pub greatest_said : GreatestStatesSayResults cmp
  greatest_said state xs first =
      best_of-map at_int_place (is_greater_at cmp nat_cmp) (is_greater_at cmp int_cmp) (λ x y. ap (λ r. is_lt (ordering_then (cmp y.0 x.0) r)) (int_cmp-pos x.1 y.1)) xs
      ∙ ap (option_map at_int_place) (sym (first_is_best (greater_at_is_order total nat_cmp_total) state xs first))

-- Each kind of step keeps the claim's rule, and what the rule tells of one seat.
use Rattle.std.proofs.Common.{◌≡◌, ◌≢◌, ℕ, zero, suc, ◌+◌, ◌%◌, ◌^◌, ◌<◌, ◌≤◌, List, [], ◌∷◌, ◌++◌, length, set, sym, refl, ap, ◌∙◌, subst, arith}
use mathlib.Core.Option.{none, some, some-injective, some-ne-none}
use lib.ListN.{get_elem?}
use Rattle.std.specs.List.{All, sum_by, range_with_len, slice_index, slice_set}
use Rattle.std.specs.List.Sorted.{IsPermutation}
use Rattle.std.proofs.lemmas.List.{length-append}
use Rattle.std.proofs.lemmas.List.FromFn.{length-range_with_len}
use Rattle.std.proofs.lemmas.List.Elements.{All-nil, All-cons}
use Rattle.std.proofs.lemmas.List.Sorted.{All-permutation, length_permutation, IsPermutation-sym, IsPermutation-trans, IsPermutation-append_left}
use Rattle.std.proofs.lemmas.List.Sums.{sum_by_push, sum_by-cons}
use Rattle.atomic_table.specs.Table.{State, Me, Act, keeps, Valid, step, homes_after, carried_after, Allows, Splits, Joins}
use Rattle.atomic_table.proofs.Lists.{set_here, set_again}
use Rattle.stop_word.proofs.Gathered.{All-front, in_list, sum_set, sum_at, apart, grown, forked, joined, alone}
use Rattle.loop_batch.specs.declared.views.ClaimView.{ClaimView}
use Rattle.loop_batch.specs.Numbers.{whole_weight, numbers_below, IsAbove}
use Rattle.loop_batch.specs.Rule.{all_drawn, weight_and_draws, ClaimRule, KeepsRule}
use Rattle.loop_batch.specs.Steps.{view_drawn, left_view, right_view, both_view, spent_view}
use Rattle.loop_batch.specs.Tells.{IsTold, IsFound, draws, looks}

abbrev drawn_of : ClaimView → List ℕ
drawn_of v = v.drawn

-- the numbers below a count
range_more : (n a : ℕ) → range_with_len a (suc n) ≡ range_with_len a n ++ (a + n) ∷ []
range_more zero a = let e : a ≡ a + 0 = omega arith in ap (λ x. x ∷ []) e
range_more (suc n) a = let e : a + 1 + n ≡ a + suc n = omega arith in ap (λ l. a ∷ l) (range_more n (a + 1) ∙ ap (λ x. range_with_len (a + 1) n ++ x ∷ []) e)

pub below_more : (n : ℕ) → numbers_below n ++ n ∷ [] ≡ numbers_below (n + 1)
below_more n =
    let on : suc n ≡ n + 1 = omega arith in
    let last : 0 + n ≡ n = omega arith in
    ap (λ k. range_with_len 0 n ++ k ∷ []) (sym last) ∙ sym (range_more n 0) ∙ ap (range_with_len 0) on

range_below : (n a : ℕ) → IsAbove (a + n) (range_with_len a n)
range_below zero a = All-nil (λ m. m < a + 0)
range_below (suc n) a =
    let e : a + 1 + n ≡ a + suc n = omega arith in
    All-cons (λ m. m < a + suc n) a (range_with_len (a + 1) n) (omega arith) (subst (λ k. IsAbove k (range_with_len (a + 1) n)) e (range_below n (a + 1)))

pub all_below : (n : ℕ) → IsAbove n (numbers_below n)
all_below n = let is : 0 + n ≡ n = omega arith in subst (λ k. IsAbove k (numbers_below n)) is (range_below n 0)

-- a list of no length is empty
none_drawn : (xs : List ℕ) → length xs ≡ 0 → xs ≡ []
none_drawn [] e = refl
none_drawn (x ∷ xs) e = absurd (omega arith)

idle_drawn : (views : List ClaimView) → All (λ v. weight_and_draws v ≡ 0 → drawn_of v ≡ []) views
idle_drawn [] = All-nil (λ v. weight_and_draws v ≡ 0 → drawn_of v ≡ [])
idle_drawn (v ∷ vs) = All-cons (λ u. weight_and_draws u ≡ 0 → drawn_of u ≡ []) v vs (λ none. none_drawn v.drawn (omega (arith, none))) (idle_drawn vs)

-- how many numbers are drawn, beside the weights
drawn_at_most : (views : List ClaimView) → length (all_drawn views) ≤ sum_by weight_and_draws views
drawn_at_most [] = omega arith
drawn_at_most (v ∷ vs) = let r = drawn_at_most vs in omega (arith, length-append v.drawn (all_drawn vs), sum_by-cons weight_and_draws v vs)

drawn_beside : (views : List ClaimView) (id : ℕ) (v : ClaimView) → get_elem? views id ≡ some v → length (all_drawn views) + v.weight ≤ sum_by weight_and_draws views
drawn_beside [] id v e = absurd (some-ne-none v (sym e))
drawn_beside (w ∷ vs) zero v e =
    let is : w.weight ≡ v.weight = ap (λ u. u.weight) (some-injective w v e) in
    let r = drawn_at_most vs in
    omega (arith, length-append w.drawn (all_drawn vs), sum_by-cons weight_and_draws w vs)
drawn_beside (w ∷ vs) (suc id) v e = let r = drawn_beside vs id v e in omega (arith, length-append w.drawn (all_drawn vs), sum_by-cons weight_and_draws w vs)

-- what the rule tells of one view
module _ (word : ℕ) (views : List ClaimView) (id : ℕ) (v : ClaimView) (r : ClaimRule word views) (at : get_elem? views id ≡ some v) where
  pub count_is : length (all_drawn views) ≡ word
  count_is = sym (length_permutation (all_drawn views) (numbers_below word) r.drawn) ∙ length-range_with_len 0 word

  pub all_is_own : weight_and_draws v ≡ whole_weight → all_drawn views ≡ v.drawn
  all_is_own whole = alone drawn_of weight_and_draws views id v at (r.weights ∙ sym whole) (idle_drawn views)

  pub own_count : weight_and_draws v ≡ whole_weight → word ≡ length v.drawn
  own_count whole = sym count_is ∙ ap length (all_is_own whole)

  pub own_below : weight_and_draws v ≡ whole_weight → IsPermutation v.drawn (numbers_below word)
  own_below whole = subst (λ l. IsPermutation l (numbers_below word)) (all_is_own whole) r.drawn

  pub told : IsTold v
  told = record {
    most = (let most = sum_at weight_and_draws views id v at in let sum = r.weights in omega arith);
    known = λ whole. subst (λ n. IsPermutation v.drawn (numbers_below n)) (own_count whole) (own_below whole);
  }

  -- all that was drawn is below the word
  pub drawn_below : IsAbove word (all_drawn views)
  drawn_below = All-permutation (λ n. n < word) _ _ (IsPermutation-sym _ _ r.drawn) (all_below word)

  out : IsPermutation (all_drawn views) (v.drawn ++ all_drawn (set views id spent_view))
  out = apart drawn_of views id v spent_view refl at

  pub found : IsFound v word
  found = record {
    above = All-front (λ n. n < word) v.drawn _ (All-permutation (λ n. n < word) _ _ out drawn_below);
    many = (let l = length_permutation _ _ out in let c = count_is in omega (arith, length-append v.drawn (all_drawn (set views id spent_view))));
    exact = own_count;
  }

  pub few : word + v.weight ≤ whole_weight
  few = let c = count_is in let w = r.weights in omega (arith, drawn_beside views id v at)

  pub keeps_drawn : 1 ≤ v.weight → ClaimRule (word + 1) (set views id (view_drawn v word))
  keeps_drawn some_weight =
      let more : IsPermutation (all_drawn views ++ word ∷ []) (all_drawn (set views id (view_drawn v word))) = grown drawn_of views id v (view_drawn v word) spent_view (word ∷ []) refl at refl in
      let old : IsPermutation (all_drawn views ++ word ∷ []) (numbers_below word ++ word ∷ []) = IsPermutation-append_left (word ∷ []) _ _ r.drawn in
      record {
        drawn = subst (λ l. IsPermutation (all_drawn (set views id (view_drawn v word))) l) (below_more word) (IsPermutation-trans _ _ _ (IsPermutation-sym _ _ more) old);
        weights = (let s = sum_set weight_and_draws views id v (view_drawn v word) at in let all = r.weights in omega (arith, length-append v.drawn (word ∷ [])));
      }

  pub keeps_split : ClaimRule word (set views id (left_view v) ++ right_view v ∷ [])
  keeps_split =
      let p : all_drawn (set views id (left_view v) ++ right_view v ∷ []) ≡ all_drawn views = forked drawn_of views id v (left_view v) (right_view v) at refl refl in
      record {
        drawn = rw p r.drawn;
        weights = (let s = sum_set weight_and_draws views id v (left_view v) at in let all = r.weights in
            omega (arith, sum_by_push weight_and_draws (set views id (left_view v)) (right_view v)));
      }

  pub keeps_joined : (other : ℕ) (w : ClaimView) → other ≢ id → get_elem? (set views id (both_view v w)) other ≡ some w → ClaimRule word (set (set views id (both_view v w)) other spent_view)
  keeps_joined other w apart_from at' =
      let both : ClaimView = both_view v w in
      let p = joined drawn_of views id other v w both spent_view refl at apart_from at' refl in
      record {
        drawn = IsPermutation-trans _ _ _ (IsPermutation-sym _ _ p) r.drawn;
        weights = (let s = sum_set weight_and_draws views id v both at in
            let t = sum_set weight_and_draws (set views id both) other w spent_view at' in
            let all = r.weights in
            omega (arith, length-append v.drawn w.drawn));
      }

abbrev Sat : Type 0
Sat = Me (Unit {0}) ClaimView

abbrev St : Type 0
St = State (Unit {0}) ClaimView

-- what a step on the one word may do, where the words are these
abbrev Goes : (ℕ → ℕ) → (ℕ → Sat → Type 0) → St → ℕ → Sat → List ℕ → Type 0
Goes f then s id me words =
    (w : ClaimView) × (a : Act (Unit {0})) × Valid s.homes me.1 a
    × KeepsRule (record { words = slice_set words 0 (f (slice_index words 0)); homes = homes_after s.homes me.1 a; views = set s.views id w })
    × then (slice_index words 0) (w, carried_after me.1 a)

-- the view that a step leaves stands at its seat
after : (views : List ClaimView) (id : ℕ) (v w : ClaimView) → get_elem? views id ≡ some v → get_elem? (set views id w) id ≡ some w
after views id v w at = set_here views id w (in_list views id v at)

module _ (slots id : ℕ) (me : Sat) where
  pub may_draw : 1 ≤ me.0.weight → Allows KeepsRule slots id me 0 (λ n. (n + 1) % 2 ^ 64) (draws (step slots 0 1 0 none) me)
  may_draw some_weight s kept _ at small =
      let word : ℕ = kept.0 in
      let w : ClaimView = view_drawn me.0 word in
      let rule : ClaimRule (word + 1) (set s.views id w) = keeps_drawn word s.views id me.0 kept.2 at some_weight in
      let most = few word s.views id me.0 kept.2 at in
      let fits : word + 1 ≡ (word + 1) % 2 ^ 64 = omega arith in
      subst (Goes (λ n. (n + 1) % 2 ^ 64) (draws (step slots 0 1 0 none) me) s id me) (sym kept.1)
      (w, keeps, tt, ((word + 1) % 2 ^ 64, refl, subst (λ n. ClaimRule n (set s.views id w)) fits rule), (refl, found word s.views id me.0 kept.2 at, told (word + 1) (set s.views id w) id w rule (after s.views id me.0 w at)))

  pub may_look : Allows KeepsRule slots id me 0 (λ n. n) (looks (step slots 0 0 0 none) me)
  may_look s kept _ at small =
      let word : ℕ = kept.0 in
      let rule : ClaimRule word (set s.views id me.0) = subst (ClaimRule word) (sym (set_again s.views id me.0 at)) kept.2 in
      subst (Goes (λ n. n) (looks (step slots 0 0 0 none) me) s id me) (sym kept.1) (me.0, keeps, tt, (word, refl, rule), (refl, told word s.views id me.0 kept.2 at))

pub may_split : (id : ℕ) (v : ClaimView) → Splits KeepsRule id v (left_view v) (right_view v)
may_split id v s kept at = (kept.0, kept.1, keeps_split kept.0 s.views id v kept.2 at)

pub may_join : (id : ℕ) (v : ClaimView) (other : ℕ) (w : ClaimView) → Joins KeepsRule id v other w (both_view v w) spent_view
may_join id v other w s kept at apart_from at' = (kept.0, kept.1, keeps_joined kept.0 s.views id v kept.2 at other w apart_from at')

-- the word at the end, where the seat's weight and draws are the whole
pub closes : (s : St) (id : ℕ) (v : ClaimView) (words : List ℕ) (n : ℕ) → KeepsRule s → get_elem? s.views id ≡ some v → s.words ≡ words → get_elem? words 0 ≡ some n
    → weight_and_draws v ≡ whole_weight → n ≡ length v.drawn
closes s id v words n kept at same here whole =
    let is : kept.0 ≡ n = some-injective kept.0 n (ap (λ ws. get_elem? ws 0) (sym kept.1 ∙ same) ∙ here) in
    own_count n s.views id v (subst (λ k. ClaimRule k s.views) is kept.2) at whole

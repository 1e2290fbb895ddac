-- The extreme of a list: the one input that beats each before it and that none after it beats; of two lists together; with places.
use Rattle.std.proofs.Common.{◌≡◌, ◌<◌, ◌≤◌, Bool, true, false, List, [], ◌∷◌, ◌++◌, Option, Some, None, All, Contains, refl, sym, ap, ◌∙◌, subst, append_assoc, length-append, true≢false, ⊎_elim, arith}
use Rattle.std.specs.Option.{option_map}
use Rattle.std.specs.Prelude.{if◌then◌else◌, map, ℤ, ◌≤ℤ◌}
use Rattle.std.specs.Int.Signed.{◌<ℤ◌, ≤ℤ_refl, <ℤ_irrefl}
use Rattle.std.specs.Cmp.{IsStrictWeakOrder, IsTotalOrder, int_ranks, int_chain}
use Rattle.std.specs.Ordering.{is_lt, is_gt, ordering_then, ordering_reverse, int_cmp, MatchOrdering}
use Rattle.std.specs.declared.cmp.Ordering.{Ordering}
use Rattle.std.specs.declared.cmp.Ordering.TheVariants.{Less, Equal, Greater}
use Rattle.std.proofs.lemmas.Bool.{cases_Bool}
use Rattle.std.proofs.lemmas.Int.{by_lt_z}
use Rattle.std.proofs.lemmas.List.Elements.{All-nil, All-append, All-cons, All-head, All-tail, All-weaker, All-contains, Contains-append_right}
use Rattle.loop_results.specs.Extremes.{or_better, best_of, IsFirstExtreme, IsUnbeaten, is_smaller, is_greater, is_smaller_at, is_greater_at}
use Rattle.loop_results.specs.Laws.{IsAtLeastPlace}
use Rattle.loop_results.specs.Orders.{smaller_at_is_order, greater_at_is_order}

module _ {T : Type 0} {beats : T → T → Bool} (o : IsStrictWeakOrder beats) where
  clash : {P : Type 0} (b : Bool) → b ≡ true → b ≡ false → P
  clash b is is_not = absurd (true≢false (sym is ∙ is_not))

  -- what beats a value that isn't beaten by another beats the other
  pub over_unbeaten : (x y z : T) → beats x y ≡ true → beats z y ≡ false → beats x z ≡ true
  over_unbeaten x y z xy zy = ⊎_elim (λ h. h) (λ h. clash (beats x y) xy (o.chain x z y h zy)) (cases_Bool (beats x z))

  -- what beats what beats
  pub over_beaten : (x y z : T) → beats x y ≡ true → beats y z ≡ true → beats x z ≡ true
  over_beaten x y z xy yz = over_unbeaten x y z xy (o.one_way y z yz)

  -- the right's extreme beats the left's, and so all of the left
  pub right_wins : (xs ys : List T) (x y : T) → IsFirstExtreme beats (Some x) xs → IsFirstExtreme beats (Some y) ys → beats y x ≡ true → IsFirstExtreme beats (Some y) (xs ++ ys)
  right_wins xs ys x y (b, a, e, over, under) (b', a', e', over', under') wins =
      let P : T → Type 0 = λ z. beats y z ≡ true in
      let before : All P b = All-weaker (λ z. beats x z ≡ true) P (λ z h. over_beaten y x z wins h) b over in
      let after : All P a = All-weaker (λ z. beats z x ≡ false) P (λ z h. over_unbeaten y x z wins h) a under in
      let left : All P (b ++ x ∷ a) = All-append P b (x ∷ a) before (All-cons P x a wins after) in
      let all : All P ((b ++ x ∷ a) ++ b') = All-append P (b ++ x ∷ a) b' left over' in
      ((b ++ x ∷ a) ++ b', a', rw (e, e') (sym (append_assoc (b ++ x ∷ a) b' (y ∷ a'))), all, under')

  -- the right's extreme doesn't beat the left's, and so nothing of the right does
  pub left_stays : (xs ys : List T) (x y : T) → IsFirstExtreme beats (Some x) xs → IsFirstExtreme beats (Some y) ys → beats y x ≡ false → IsFirstExtreme beats (Some x) (xs ++ ys)
  left_stays xs ys x y (b, a, e, over, under) (b', a', e', over', under') stays =
      let P : T → Type 0 = λ z. beats z x ≡ false in
      let before : All P b' = All-weaker (λ z. beats y z ≡ true) P (λ z h. o.chain z y x (o.one_way y z h) stays) b' over' in
      let after : All P a' = All-weaker (λ z. beats z y ≡ false) P (λ z h. o.chain z y x h stays) a' under' in
      let right : All P (b' ++ y ∷ a') = All-append P b' (y ∷ a') before (All-cons P y a' stays after) in
      let all : All P (a ++ (b' ++ y ∷ a')) = All-append P a (b' ++ y ∷ a') under right in
      (b, a ++ (b' ++ y ∷ a'), rw (e, e') (append_assoc b (x ∷ a) (b' ++ y ∷ a')), over, all)

  -- it is a member, and no member beats it
  pub unbeaten_member : (x : T) (xs : List T) → IsFirstExtreme beats (Some x) xs → Contains xs x × All (λ y. beats y x ≡ false) xs
  unbeaten_member x xs (b, a, e, over, under) =
      let P : T → Type 0 = λ y. beats y x ≡ false in
      let itself : beats x x ≡ false = ⊎_elim (λ h. o.one_way x x h) (λ h. h) (cases_Bool (beats x x)) in
      let before : All P b = All-weaker (λ y. beats x y ≡ true) P (λ y h. o.one_way x y h) b over in
      let all : All P (b ++ x ∷ a) = All-append P b (x ∷ a) before (All-cons P x a itself under) in
      let one : Contains (b ++ x ∷ a) x = Contains-append_right b (x ∷ a) x (0, omega (arith, length-append b a), refl) in
      rw e (one, all)

  -- one input alone
  one_alone : (x : T) → IsFirstExtreme beats (Some x) (x ∷ [])
  one_alone x = ([], [], refl, All-nil (λ y. beats x y ≡ true), All-nil (λ y. beats y x ≡ false))

  one_before : (x y : T) (xs : List T) → IsFirstExtreme beats (Some y) xs → (b : Bool) → beats y x ≡ b → IsFirstExtreme beats (Some (if b then y else x)) (x ∷ xs)
  one_before x y xs h true e = right_wins (x ∷ []) xs x y (one_alone x) h e
  one_before x y xs h false e = left_stays (x ∷ []) xs x y (one_alone x) h e

  one_more : (x : T) (xs : List T) (best : Option T) → IsFirstExtreme beats best xs → IsFirstExtreme beats (Some (or_better beats x best)) (x ∷ xs)
  one_more x xs None e = subst (λ ys. IsFirstExtreme beats (Some x) (x ∷ ys)) (sym e) (one_alone x)
  one_more x xs (Some y) h = one_before x y xs h (beats y x) refl

  -- the best is first
  pub best_is_first : (xs : List T) → IsFirstExtreme beats (best_of beats xs) xs
  best_is_first [] = refl
  best_is_first (x ∷ xs) = one_more x xs (best_of beats xs) (best_is_first xs)

  pub unbeaten : (best : Option T) (xs : List T) → IsFirstExtreme beats best xs → IsUnbeaten beats best xs
  unbeaten None xs e = e
  unbeaten (Some x) xs h = unbeaten_member x xs h

  pub best_is_unbeaten : (xs : List T) → IsUnbeaten beats (best_of beats xs) xs
  best_is_unbeaten xs = unbeaten (best_of beats xs) xs (best_is_first xs)

  -- what no input after it beats stays
  unbeaten_stays : (x : T) (after : List T) (best : Option T) → IsUnbeaten beats best after → All (λ y. beats y x ≡ false) after → or_better beats x best ≡ x
  unbeaten_stays x after None h under = refl
  unbeaten_stays x after (Some y) h under = ap (λ b. if b then y else x) (All-contains (λ z. beats z x ≡ false) after y under h.0)

  first_is_found : (before after : List T) (x : T) → All (λ y. beats x y ≡ true) before → All (λ y. beats y x ≡ false) after → best_of beats (before ++ x ∷ after) ≡ Some x
  first_is_found [] after x over under = ap (λ y. Some y) (unbeaten_stays x after (best_of beats after) (best_is_unbeaten after) under)
  first_is_found (z ∷ before) after x over under =
      ap (λ best. Some (or_better beats z best)) (first_is_found before after x (All-tail (λ y. beats x y ≡ true) z before over) under)
      ∙ ap (λ b. Some (if b then x else z)) (All-head (λ y. beats x y ≡ true) z before over)

  -- and what is first is the best
  pub first_is_best : (best : Option T) (xs : List T) → IsFirstExtreme beats best xs → best ≡ best_of beats xs
  first_is_best None xs e = ap (best_of beats) (sym e)
  first_is_best (Some x) xs (before, after, e, over, under) = sym (ap (best_of beats) e ∙ first_is_found before after x over under)

-- ---- where inputs are said otherwise, in the same order

module _ {T U : Type 0} (f : T → U) (beats : T → T → Bool) (by : U → U → Bool) (alike : (x y : T) → by (f x) (f y) ≡ beats x y) where
  if_said : (b : Bool) (x y : T) → (if b then f y else f x) ≡ f (if b then y else x)
  if_said true x y = refl
  if_said false x y = refl

  better_said : (x : T) (best : Option T) → or_better by (f x) (option_map f best) ≡ f (or_better beats x best)
  better_said x None = refl
  better_said x (Some y) = ap (λ b. if b then f y else f x) (alike y x) ∙ if_said (beats y x) x y

  pub best_of-map : (xs : List T) → best_of by (map f xs) ≡ option_map f (best_of beats xs)
  best_of-map [] = refl
  best_of-map (x ∷ xs) = ap (λ best. Some (or_better by (f x) best)) (best_of-map xs) ∙ ap (λ y. Some y) (better_said x (best_of beats xs))

-- ---- places

-- where a pair isn't before another by their first parts and then their seconds
pub not_before : (r s : Ordering) → is_lt (ordering_then r s) ≡ false → (is_lt r ≡ false) × (r ≡ Equal → is_lt s ≡ false)
not_before Less s h = absurd (true≢false h)
not_before Equal s h = (refl, λ e. h)
not_before Greater s h = (refl, λ e. absurd (true≢false (ap is_gt e)))

not_less_z : (r : Ordering) (q p : ℤ) → MatchOrdering r (q <ℤ p) (q ≡ p) (p <ℤ q) → is_lt r ≡ false → p ≤ℤ q
not_less_z Less q p h k = absurd (true≢false k)
not_less_z Equal q p h k = subst (λ z. z ≤ℤ q) h (≤ℤ_refl q)
not_less_z Greater q p h k = by_lt_z q p (λ l. absurd (<ℤ_irrefl (int_chain p q p h l))) (λ n. n)

pub at_most_z : (p q : ℤ) → is_lt (int_cmp q p) ≡ false → p ≤ℤ q
at_most_z p q h = not_less_z (int_cmp q p) q p (int_ranks q p) h

module _ {T P : Type 0} {cmp : T → T → Ordering} {places : P → P → Ordering} (total : IsTotalOrder cmp) (ordered : IsTotalOrder places) {AtMost : P → P → Type 0} (at_most : (p q : P) → is_lt (places q p) ≡ false → AtMost p q) where
  pub least_place : (best : Option (T × P)) (xs : List (T × P)) → IsFirstExtreme (is_smaller_at cmp places) best xs → IsAtLeastPlace (is_smaller cmp) cmp AtMost best xs
  least_place None xs first = first
  least_place (Some x) xs first =
      let (here, all) = unbeaten_member (smaller_at_is_order total ordered) x xs first in
      let none : T × P → Type 0 = λ y. is_smaller_at cmp places y x ≡ false in (
        here,
        All-weaker none (λ y. is_smaller cmp y.0 x.0 ≡ false) (λ y n. (not_before (cmp y.0 x.0) (places y.1 x.1) n).0) xs all,
        All-weaker none (λ y. cmp y.0 x.0 ≡ Equal → AtMost x.1 y.1)
            (λ y n same. at_most x.1 y.1 ((not_before (cmp y.0 x.0) (places y.1 x.1) n).1 same)) xs all,
      )

  pub greatest_place : (best : Option (T × P)) (xs : List (T × P)) → IsFirstExtreme (is_greater_at cmp places) best xs → IsAtLeastPlace (is_greater cmp) cmp AtMost best xs
  greatest_place None xs first = first
  greatest_place (Some x) xs first =
      let (here, all) = unbeaten_member (greater_at_is_order total ordered) x xs first in
      let none : T × P → Type 0 = λ y. is_greater_at cmp places y x ≡ false in
      let turned : (y : T × P) → cmp y.0 x.0 ≡ Equal → cmp x.0 y.0 ≡ Equal = λ y same. total.antisymm x.0 y.0 ∙ ap ordering_reverse same in (
        here,
        All-weaker none (λ y. is_greater cmp y.0 x.0 ≡ false) (λ y n. (not_before (cmp x.0 y.0) (places y.1 x.1) n).0) xs all,
        All-weaker none (λ y. cmp y.0 x.0 ≡ Equal → AtMost x.1 y.1)
            (λ y n same. at_most x.1 y.1 ((not_before (cmp x.0 y.0) (places y.1 x.1) n).1 (turned y same))) xs all,
      )

  pub least_best_place : (xs : List (T × P)) → IsAtLeastPlace (is_smaller cmp) cmp AtMost (best_of (is_smaller_at cmp places) xs) xs
  least_best_place xs = least_place (best_of (is_smaller_at cmp places) xs) xs (best_is_first (smaller_at_is_order total ordered) xs)

  pub greatest_best_place : (xs : List (T × P)) → IsAtLeastPlace (is_greater cmp) cmp AtMost (best_of (is_greater_at cmp places) xs) xs
  greatest_best_place xs = greatest_place (best_of (is_greater_at cmp places) xs) xs (best_is_first (greater_at_is_order total ordered) xs)

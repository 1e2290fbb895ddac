-- The first count of lengths that is over the limit.
use Rattle.std.proofs.Common.{◌≡◌, ℕ, zero, suc, ◌+◌, ◌*◌, ◌<◌, ◌≤◌, Bool, true, false, nat_lt, List, [], ◌∷◌, ◌++◌, length, get_or, map, take, drop, Some, None, refl, sym, ap, ◌∙◌, inl, inr, arith, take-append-drop}
use Rattle.std.specs.Prelude.{nat_eq, find}
use Rattle.std.specs.List.{list_any, range_with_len}
use Rattle.std.proofs.Math.Nat.{mul-le-mul_left}
use Rattle.std.proofs.Math.Seq.{take-suc, take-length}
use Rattle.std.proofs.lemmas.Bool.{cases_lt}
use Rattle.std.proofs.lemmas.Bool.Decides.{nat_tests}
use Rattle.number_ranges.specs.Ranges.{most_items}
use Rattle.splittable.specs.Places.{item_count, prefix_counts, first_excess, excess_of}
use Rattle.splittable.specs.Laws.{IsShortestExcess}
use Rattle.splittable.proofs.Products.{right_positive}

not_over : (n : ℕ) → n ≤ most_items → nat_lt most_items n ≡ false
not_over n h = grind (arith, nat_tests)

is_over : (n : ℕ) → most_items < n → nat_lt most_items n ≡ true
is_over n h = grind (arith, nat_tests)

over_is : (n : ℕ) → nat_lt most_items n ≡ true → most_items < n
over_is n h = grind (arith, nat_tests)

not_over_is : (n : ℕ) → nat_lt most_items n ≡ false → n ≤ most_items
not_over_is n h = grind (arith, nat_tests)

pub no_excess : (lens : List ℕ) → item_count lens ≤ most_items → None ≡ excess_of lens
no_excess lens h = rw (not_over (item_count lens) h) refl

-- the product of the first lengths and that of the others
item_count-append : (xs ys : List ℕ) → item_count (xs ++ ys) ≡ item_count xs * item_count ys
item_count-append [] ys = omega arith
item_count-append (x ∷ xs) ys = rw (item_count-append xs ys) (omega arith)

item_count-parted : (n : ℕ) (lens : List ℕ) → item_count (take n lens) * item_count (drop n lens) ≡ item_count lens
item_count-parted n lens = sym (item_count-append (take n lens) (drop n lens)) ∙ ap item_count (take-append-drop n lens)

item_count-next : (lens : List ℕ) (i : ℕ) → i < length lens → item_count (take i lens) * get_or lens i 0 ≡ item_count (take (suc i) lens)
item_count-next lens i lt =
    let one : item_count (get_or lens i 0 ∷ []) ≡ get_or lens i 0 = omega arith in
    sym (ap item_count (take-suc lens i 0 lt) ∙ item_count-append (take i lens) (get_or lens i 0 ∷ []) ∙ ap (λ n. item_count (take i lens) * n) one)

-- the first number of a run that passes a test, if those before it don't
find_first : (p : ℕ → Bool) (g : ℕ → ℕ) (a n k : ℕ) → k < n → ((m : ℕ) → m < k → p (g (a + m)) ≡ false) → p (g (a + k)) ≡ true →
    find p (map g (range_with_len a n)) ≡ Some (g (a + k))
find_first p g a zero k lt before here = absurd (omega arith)
find_first p g a (suc n) zero lt before here =
    let e : a + 0 ≡ a = omega arith in
    let here' : p (g a) ≡ true = rw e at here in
    rw (here', e) refl
find_first p g a (suc n) (suc k) lt before here =
    let e0 : a + 0 ≡ a = omega arith in
    let e : a + suc k ≡ a + 1 + k = omega arith in
    let first : p (g a) ≡ false = rw e0 at (before 0 (omega arith)) in
    let here' : p (g (a + 1 + k)) ≡ true = rw e at here in
    rw (first, e)
    (find_first p g (a + 1) n k (omega arith) (λ m h. let e' : a + 1 + m ≡ a + suc m = omega arith in rw e' (before (suc m) (omega arith))) here')

-- where some number passes a test, one is the first that does
record IsFirst (p : ℕ → Bool) (g : ℕ → ℕ) (a k : ℕ) : Type 0 where
  place : ℕ
  within : place ≤ k
  passes : p (g (a + place)) ≡ true
  before : (m : ℕ) → m < place → p (g (a + m)) ≡ false

first_before : (p : ℕ → Bool) (g : ℕ → ℕ) (a place : ℕ) → p (g a) ≡ false → ((m : ℕ) → m < place → p (g (a + 1 + m)) ≡ false) → (m : ℕ) → m < suc place → p (g (a + m)) ≡ false
first_before p g a place not_here before zero lt = let e : a + 0 ≡ a = omega arith in rw e not_here
first_before p g a place not_here before (suc m) lt = let e : a + suc m ≡ a + 1 + m = omega arith in rw e (before m (omega arith))

first_later : (p : ℕ → Bool) (g : ℕ → ℕ) (a k : ℕ) → p (g a) ≡ false → IsFirst p g (a + 1) k → IsFirst p g a (suc k)
first_later p g a k not_here h =
    let e : a + 1 + h.place ≡ a + suc h.place = omega arith in
    record {
      place = suc h.place;
      within = omega (arith, h.within);
      passes = rw e at h.passes;
      before = first_before p g a h.place not_here h.before;
    }

first_at : (p : ℕ → Bool) (g : ℕ → ℕ) (a k : ℕ) (here : Bool) → p (g a) ≡ here → p (g (a + k)) ≡ true → IsFirst p g a k
first_at p g a k true e h = let e0 : a + 0 ≡ a = omega arith in record { place = 0; within = omega arith; passes = rw e0 e; before = λ m lt. absurd (omega arith) }
first_at p g a zero false e h = let e0 : a + 0 ≡ a = omega arith in let h' : p (g a) ≡ true = rw e0 at h in absurd (cc)
first_at p g a (suc k) false e h =
    let e1 : a + suc k ≡ a + 1 + k = omega arith in
    let h' : p (g (a + 1 + k)) ≡ true = rw e1 at h in
    first_later p g a k e (first_at p g (a + 1) k (p (g (a + 1))) refl h')

-- the shortest prefix that is over gives the first excess
excess_at : (lens : List ℕ) (n : ℕ) → n ≤ length lens → ((m : ℕ) → m < n → item_count (take m lens) ≤ most_items) → most_items < item_count (take n lens) →
    first_excess lens ≡ item_count (take n lens)
excess_at lens n within shorter over =
    let g : ℕ → ℕ = λ m. item_count (take m lens) in
    let e : 0 + n ≡ n = omega arith in
    let found : find (nat_lt most_items) (prefix_counts lens) ≡ Some (g (0 + n)) =
    find_first (nat_lt most_items) g 0 (length lens + 1) n (omega arith) (λ m lt. let e' : 0 + m ≡ m = omega arith in rw e' (not_over (g m) (shorter m lt))) (rw e (is_over (g n) over)) in
    rw found (ap g e)

shortest_at : (lens : List ℕ) (n : ℕ) → n ≤ length lens → most_items < item_count (take n lens) → ((m : ℕ) → m < n → item_count (take m lens) ≤ most_items) → IsShortestExcess lens (first_excess lens)
shortest_at lens n within over shorter =
    let e : first_excess lens ≡ item_count (take n lens) = excess_at lens n within shorter over in
    record { prefix = n; within = within; count_is = e; over = rw e over; shortest = shorter }

pub shortest_excess : (lens : List ℕ) → most_items < item_count lens → IsShortestExcess lens (first_excess lens)
shortest_excess lens over =
    let g : ℕ → ℕ = λ m. item_count (take m lens) in
    let all : item_count (take (length lens) lens) ≡ item_count lens = ap item_count (take-length lens) in
    let e : 0 + length lens ≡ length lens = omega arith in
    let last : nat_lt most_items (g (0 + length lens)) ≡ true = rw (e, all) (is_over (item_count lens) over) in
    let first = first_at (nat_lt most_items) g 0 (length lens) (nat_lt most_items (g 0)) refl last in
    shortest_at lens first.place first.within (let e0 : 0 + first.place ≡ first.place = omega arith in over_is (g first.place) (rw e0 at first.passes))
    (λ m lt. let e0 : 0 + m ≡ m = omega arith in not_over_is (g m) (rw e0 at (first.before m lt)))

-- the lengths before a place have so many items, and no prefix of them has too many
pub record IsSoFar (lens : List ℕ) (i items : ℕ) : Type 0 where
  pub few : items ≤ most_items
  pub product : items ≡ item_count (take i lens)
  pub shorter : (n : ℕ) → n < i + 1 → item_count (take n lens) ≤ most_items

shorter_more : (lens : List ℕ) (i : ℕ) → ((n : ℕ) → n < i → item_count (take n lens) ≤ most_items) → item_count (take i lens) ≤ most_items → (n : ℕ) → n < i + 1 → item_count (take n lens) ≤ most_items
shorter_more lens i shorter here n lt =
    elim (cases_lt n i) [
      | inl before ↦ shorter n before
      | inr after ↦ (let e : n ≡ i = omega arith in rw e here)
    ]

pub so_far_none : (lens : List ℕ) → IsSoFar lens 0 1
so_far_none lens = record { few = omega arith; product = refl; shorter = shorter_more lens 0 (λ n lt. absurd (omega arith)) (omega arith) }

pub so_far_more : (lens : List ℕ) (i items : ℕ) → IsSoFar lens i items → i < length lens → items * get_or lens i 0 ≤ most_items →
    IsSoFar lens (i + 1) (items * get_or lens i 0)
so_far_more lens i items h lt le =
    let e : i + 1 ≡ suc i = omega arith in
    let product : items * get_or lens i 0 ≡ item_count (take (i + 1) lens) = rw (h.product, e) (item_count-next lens i lt) in
    record { few = le; product = product; shorter = shorter_more lens (i + 1) h.shorter (rw (← product) le) }

pub so_far_over : (lens : List ℕ) (i items : ℕ) → IsSoFar lens i items → i < length lens → most_items < items * get_or lens i 0 → 1 ≤ item_count lens →
    Some (items * get_or lens i 0) ≡ excess_of lens
so_far_over lens i items h lt over some =
    let e : i + 1 ≡ suc i = omega arith in
    let n = items * get_or lens i 0 in
    let product : items * get_or lens i 0 ≡ item_count (take (i + 1) lens) = rw (h.product, e) (item_count-next lens i lt) in
    let parted : items * get_or lens i 0 * item_count (drop (i + 1) lens) ≡ item_count lens = rw product (item_count-parted (i + 1) lens) in
    let rest : 1 ≤ item_count (drop (i + 1) lens) = right_positive (items * get_or lens i 0) (item_count (drop (i + 1) lens)) (omega (arith, parted, some)) in
    let more : most_items < item_count lens = omega (arith, mul-le-mul_left (items * get_or lens i 0) rest, parted, over) in
    let found : first_excess lens ≡ item_count (take (i + 1) lens) = excess_at lens (i + 1) (omega arith) h.shorter (rw (← product) over) in
    rw (is_over (item_count lens) more) (ap Some (product ∙ sym found))

pub so_far_all : (lens : List ℕ) (items : ℕ) → IsSoFar lens (length lens) items → None ≡ excess_of lens
so_far_all lens items h =
    let all : item_count (take (length lens) lens) ≡ item_count lens = ap item_count (take-length lens) in
    no_excess lens (omega (arith, h.few, h.product, all))

-- whether a length is 0
pub any_zero : (lens : List ℕ) → list_any (λ y. nat_eq y 0) lens ≡ true → item_count lens ≡ 0
any_zero [] e = absurd (cc)
any_zero (zero ∷ lens) e = omega arith
any_zero (suc len ∷ lens) e =
    let f : nat_eq (suc len) 0 ≡ false = grind (arith, nat_tests) in
    let rest : list_any (λ y. nat_eq y 0) lens ≡ true = rw f at e in
    let ih : item_count lens ≡ 0 = any_zero lens rest in
    rw ih (omega arith)

pub no_zero : (lens : List ℕ) → list_any (λ y. nat_eq y 0) lens ≡ false → 1 ≤ item_count lens
no_zero [] e = omega arith
no_zero (zero ∷ lens) e = absurd (cc)
no_zero (suc len ∷ lens) e =
    let f : nat_eq (suc len) 0 ≡ false = grind (arith, nat_tests) in
    let rest : list_any (λ y. nat_eq y 0) lens ≡ false = rw f at e in
    let ih : 1 ≤ item_count lens = no_zero lens rest in
    let some : 1 ≤ suc len = omega arith in
    omega (arith, mul-le-mul_left (suc len) ih)

-- Lists of items that are a step apart.
use Rattle.std.proofs.Common.{◌≡◌, ℕ, zero, suc, ◌+◌, ◌<◌, [], ◌∷◌, ◌++◌, length, map, Some, refl, sym, ap, ap₂, ◌∙◌, arith}
use Rattle.std.specs.Prelude.{ℤ, ◌+ℤ◌, slice_get}
use Rattle.std.specs.List.{range_with_len}
use Rattle.std.proofs.lemmas.List.FromFn.{length-map-range_with_len}
use Rattle.number_ranges.specs.Ranges.{range_item, items_from}
use Rattle.number_ranges.proofs.Steps.{no_step, one_step, steps_add}

pub length-items_from : (f s : ℤ) (n : ℕ) → length (items_from f s n) ≡ n
unfolding items_from
length-items_from f s n = length-map-range_with_len (range_item f s) 0 n

-- what is so many steps on from the number m steps on
shifted : (f s : ℤ) (m b n : ℕ) → map (range_item f s) (range_with_len (m + b) n) ≡ map (range_item (range_item f s m) s) (range_with_len b n)
shifted f s m b zero = refl
shifted f s m b (suc n) =
    let e : m + b + 1 ≡ m + (b + 1) = omega arith in
    ap₂ (λ x xs. x ∷ xs) (sym (steps_add f s m b)) (ap (λ a. map (range_item f s) (range_with_len a n)) e ∙ shifted f s m (b + 1) n)

map_range-add : (g : ℕ → ℤ) (a m n : ℕ) → map g (range_with_len a (m + n)) ≡ map g (range_with_len a m) ++ map g (range_with_len (a + m) n)
map_range-add g a zero n =
    let e : 0 + n ≡ n = omega arith in
    let e1 : a + 0 ≡ a = omega arith in
    rw (e, e1) refl
map_range-add g a (suc m) n =
    let e : suc m + n ≡ suc (m + n) = omega arith in
    let e1 : a + suc m ≡ a + 1 + m = omega arith in
    rw (e, e1) (ap (λ xs. g a ∷ xs) (map_range-add g (a + 1) m n))

pub items_from-add : (f s : ℤ) (m n : ℕ) → items_from f s (m + n) ≡ items_from f s m ++ items_from (range_item f s m) s n
unfolding items_from
items_from-add f s m n =
    let e : 0 + m ≡ m + 0 = omega arith in
    map_range-add (range_item f s) 0 m n
    ∙ ap (λ xs. map (range_item f s) (range_with_len 0 m) ++ xs) (ap (λ a. map (range_item f s) (range_with_len a n)) e ∙ shifted f s m 0 n)

pub items_from-none : (f s : ℤ) → items_from f s 0 ≡ []
unfolding items_from
items_from-none f s = refl

pub items_from-one : (f s : ℤ) → items_from f s 1 ≡ f ∷ []
unfolding items_from
items_from-one f s = ap (λ x. x ∷ []) (no_step f s)

pub items_from-suc : (f s : ℤ) (n : ℕ) → items_from f s (n + 1) ≡ f ∷ items_from (f +ℤ s) s n
items_from-suc f s n =
    let e : n + 1 ≡ 1 + n = omega arith in
    let e1 : range_item f s 1 ≡ f +ℤ s = sym (one_step f s 0) ∙ no_step (f +ℤ s) s in
    ap (items_from f s) e ∙ items_from-add f s 1 n ∙ ap₂ (λ xs ys. xs ++ ys) (items_from-one f s) (ap (λ x. items_from x s n) e1)

map_range-get : (g : ℕ → ℤ) (a n k : ℕ) → k < n → slice_get (map g (range_with_len a n)) k ≡ Some (g (a + k))
map_range-get g a zero k h = absurd (omega arith)
map_range-get g a (suc n) zero h = let e : a ≡ a + 0 = omega arith in ap (λ b. Some (g b)) e
map_range-get g a (suc n) (suc k) h =
    let e : a + 1 + k ≡ a + suc k = omega arith in
    map_range-get g (a + 1) n k (omega arith) ∙ ap (λ b. Some (g b)) e

pub slice_get-items_from : (f s : ℤ) (n k : ℕ) → k < n → slice_get (items_from f s n) k ≡ Some (range_item f s k)
unfolding items_from
slice_get-items_from f s n k h =
    let e : 0 + k ≡ k = omega arith in
    map_range-get (range_item f s) 0 n k h ∙ ap (λ b. Some (range_item f s b)) e

-- Sums and products of two lists together, and how large a sum can be.
use Rattle.std.proofs.Common.{◌≡◌, ℕ, ◌+◌, ◌*◌, ◌^◌, ◌≤◌, List, [], ◌∷◌, ◌++◌, length, ℤ, pos, ◌+ℤ◌, ◌*ℤ◌, neg_ℤ, ◌≤ℤ◌, All, FitsSigned, w64, length-append, ◌<◌, to_z, of_z, sym, ap, ap₂, subst, ◌∙◌, arith}
use Rattle.std.specs.Int.{int_wrap, w128}
use Rattle.std.proofs.lemmas.Int.{ints, to_z-of_z, int_wrap-mul_left, int_wrap-mul_right}
use Rattle.std.proofs.lemmas.List.Elements.{All-head, All-tail, All-push, All-append}
use borrow.Author.Differences.{up, down, same_in, product_is}
use Rattle.loop_results.specs.Results.{sum_of, product_of}
use Rattle.reducer_laws.specs.Numbers.{IsSum}

pub sum_of-append : (xs ys : List ℤ) → sum_of (xs ++ ys) ≡ sum_of xs +ℤ sum_of ys
sum_of-append [] ys = omega (arith, ints)
sum_of-append (x ∷ xs) ys = omega (arith, ints, sum_of-append xs ys)

pub sum_of-push : (xs : List ℤ) (y : ℤ) → sum_of (xs ++ y ∷ []) ≡ sum_of xs +ℤ y
sum_of-push [] y = omega (arith, ints)
sum_of-push (x ∷ xs) y = omega (arith, ints, sum_of-push xs y)

mul_assoc : (a b c : ℤ) → (a *ℤ b) *ℤ c ≡ a *ℤ (b *ℤ c)
mul_assoc a b c =
    let ab = product_is a b in
    let bc = product_is b c in
    let by = λ (k : ℕ) (m n : ℕ) (e : m ≡ n). ap (λ x. x * k) e in
    let left = product_is (a *ℤ b) c in
    let right = product_is a (b *ℤ c) in
    let ups : up ((a *ℤ b) *ℤ c) ≡ up (a *ℤ (b *ℤ c)) = omega (arith, by (up c) _ _ ab.0, by (down c) _ _ ab.1, by (up a) _ _ bc.0, by (down a) _ _ bc.1) in
    let downs : down ((a *ℤ b) *ℤ c) ≡ down (a *ℤ (b *ℤ c)) = omega (arith, by (down c) _ _ ab.0, by (up c) _ _ ab.1, by (down a) _ _ bc.0, by (up a) _ _ bc.1) in
    same_in _ _ (λ i. ups i + sym downs i)

pub product_of-append : (xs ys : List ℤ) → product_of (xs ++ ys) ≡ product_of xs *ℤ product_of ys
product_of-append [] ys = omega (arith, ints)
product_of-append (x ∷ xs) ys = ap (λ p. x *ℤ p) (product_of-append xs ys) ∙ sym (mul_assoc x (product_of xs) (product_of ys))

pub product_of-push : (xs : List ℤ) (y : ℤ) → product_of (xs ++ y ∷ []) ≡ product_of xs *ℤ y
product_of-push xs y = product_of-append xs (y ∷ []) ∙ ap (λ p. product_of xs *ℤ p) (omega (arith, ints))

-- products that wrap multiply as products do
pub wrapped-append : (xs ys : List ℤ) → int_wrap w64 (int_wrap w64 (product_of xs) *ℤ int_wrap w64 (product_of ys)) ≡ int_wrap w64 (product_of (xs ++ ys))
wrapped-append xs ys =
    int_wrap-mul_left w64 (product_of xs) (int_wrap w64 (product_of ys))
    ∙ int_wrap-mul_right w64 (product_of xs) (product_of ys)
    ∙ ap (int_wrap w64) (sym (product_of-append xs ys))

pub wrapped-push : (xs : List ℤ) (y : ℤ) → int_wrap w64 (int_wrap w64 (product_of xs) *ℤ y) ≡ int_wrap w64 (product_of (xs ++ y ∷ []))
wrapped-push xs y = int_wrap-mul_left w64 (product_of xs) y ∙ ap (int_wrap w64) (sym (product_of-push xs y))

-- a sum of so many numbers of 64 bits is at most so far from zero
pub sum_of-bounds : (xs : List ℤ) → All (FitsSigned w64) xs → (neg_ℤ (pos (length xs * 2 ^ 63)) ≤ℤ sum_of xs) × (sum_of xs ≤ℤ pos (length xs * 2 ^ 63))
sum_of-bounds [] h = (omega (arith, ints), omega (arith, ints))
sum_of-bounds (x ∷ xs) h =
    let one : FitsSigned w64 x = All-head (FitsSigned w64) x xs h in
    let rest = sum_of-bounds xs (All-tail (FitsSigned w64) x xs h) in
    (omega (arith, ints, one, rest.0, rest.1), omega (arith, ints, one, rest.0, rest.1))

pub sum_within : (s : ℤ) (xs : List ℤ) → IsSum s xs → length xs ≤ 2 ^ 62 → (neg_ℤ (pos (2 ^ 125)) ≤ℤ s) × (s ≤ℤ pos (2 ^ 125))
sum_within s xs h le = let b = sum_of-bounds xs h.0 in let e : s ≡ sum_of xs = h.1 in (omega (arith, ints, b.0, b.1, e), omega (arith, ints, b.0, b.1, e))

-- a sum of 64-bit inputs fits, and so does the sum with one more
pub sum_fits : (s : ℤ) (xs : List ℤ) → IsSum s xs → length xs ≤ 2 ^ 62 → FitsSigned w128 s
sum_fits s xs h le = let b = sum_of-bounds xs h.0 in let e : s ≡ sum_of xs = h.1 in omega (arith, ints, b.0, b.1, e)

pub next_fits : (s x : ℤ) (xs : List ℤ) → IsSum s xs → FitsSigned w64 x → length xs < 2 ^ 62 → FitsSigned w128 (s +ℤ x)
next_fits s x xs h one lt = let b = sum_of-bounds xs h.0 in let e : s ≡ sum_of xs = h.1 in omega (arith, ints, b.0, b.1, e, one)

pub merge_fits : (s t : ℤ) (xs ys : List ℤ) → IsSum s xs → IsSum t ys → length (xs ++ ys) ≤ 2 ^ 62 → FitsSigned w128 (s +ℤ t)
merge_fits s t xs ys h k le =
    let b = sum_of-bounds xs h.0 in
    let d = sum_of-bounds ys k.0 in
    let e : s ≡ sum_of xs = h.1 in
    let f : t ≡ sum_of ys = k.1 in
    let long : length xs + length ys ≤ 2 ^ 62 = omega (arith, length-append xs ys) in
    omega (arith, ints, b.0, b.1, d.0, d.1, e, f)

pub wide : (x : ℤ) → FitsSigned w64 x → FitsSigned w128 x
wide x h = omega (arith, ints, h)

-- a sum that fits is what the machine adds
pub added : (s t : ℤ) → FitsSigned w128 s → FitsSigned w128 t → FitsSigned w128 (s +ℤ t) → to_z w128 (of_z w128 (to_z w128 (of_z w128 s) +ℤ to_z w128 (of_z w128 t))) ≡ s +ℤ t
added s t h k l = rw (to_z-of_z w128 s h, to_z-of_z w128 t k) (to_z-of_z w128 (s +ℤ t) l)

pub added_fits : (s t : ℤ) → FitsSigned w128 s → FitsSigned w128 t → FitsSigned w128 (s +ℤ t) → FitsSigned w128 (to_z w128 (of_z w128 s) +ℤ to_z w128 (of_z w128 t))
added_fits s t h k l = rw (to_z-of_z w128 s h, to_z-of_z w128 t k) l

sum_next : (s x : ℤ) (xs : List ℤ) → IsSum s xs → FitsSigned w64 x → IsSum (s +ℤ x) (xs ++ x ∷ [])
sum_next s x xs h one = (All-push (FitsSigned w64) xs x h.0 one, ap (λ a. a +ℤ x) h.1 ∙ sym (sum_of-push xs x))

pub sum_merge : (s t : ℤ) (xs ys : List ℤ) → IsSum s xs → IsSum t ys → IsSum (s +ℤ t) (xs ++ ys)
sum_merge s t xs ys h k = (All-append (FitsSigned w64) xs ys h.0 k.0, ap₂ (λ a b. a +ℤ b) h.1 k.1 ∙ sym (sum_of-append xs ys))

-- one more input, which is read as a number of 128 bits
module _ (s x wider : ℤ) (xs : List ℤ) (stood : IsSum s xs) (one : FitsSigned w64 x) (few : length xs < 2 ^ 62) (same : wider ≡ x) where
  fits : FitsSigned w128 s
  fits = sum_fits s xs stood (omega (arith, few))

  wide_fits : FitsSigned w128 wider
  wide_fits = rw same (wide x one)

  total_fits : FitsSigned w128 (s +ℤ wider)
  total_fits = rw same (next_fits s x xs stood one few)

  pub next_adds : FitsSigned w128 (to_z w128 (of_z w128 s) +ℤ to_z w128 (of_z w128 wider))
  next_adds = added_fits s wider fits wide_fits total_fits

  pub next_stands : (ys : List ℤ) → IsSum s ys → IsSum (to_z w128 (of_z w128 (to_z w128 (of_z w128 s) +ℤ to_z w128 (of_z w128 wider)))) (ys ++ x ∷ [])
  next_stands ys h =
      let P : ℤ → Type 0 = λ t. IsSum t (ys ++ x ∷ []) in
      subst P (sym (added s wider fits wide_fits total_fits ∙ ap (λ a. s +ℤ a) same)) (sum_next s x ys h one)

-- Products of lengths.
use Rattle.std.proofs.Common.{◌≡◌, ℕ, zero, suc, ◌+◌, ◌-◌, ◌*◌, ◌/◌, ◌%◌, ◌<◌, ◌≤◌, List, [], ◌∷◌, ◌++◌, length, get_or, replicate, refl, sym, ap, ◌∙◌, arith}
use Rattle.std.proofs.lemmas.Nat.{div-add-mod', div-mul-add, mod-mul-add, mul-mod_first}
use Rattle.std.specs.Prelude.{Contains}
use Rattle.number_ranges.specs.Ranges.{most_items}
use Rattle.splittable.specs.Places.{item_count}

-- a product is at least 1 only where both factors are
pub left_positive : (a b : ℕ) → 1 ≤ a * b → 1 ≤ a
left_positive zero b h = omega (arith, h)
left_positive (suc a) b h = omega arith

pub right_positive : (a b : ℕ) → 1 ≤ a * b → 1 ≤ b
right_positive a zero h = omega (arith, h)
right_positive a (suc b) h = omega arith

-- ones change no product
pub item_count-ones : (lens : List ℕ) (k : ℕ) → item_count (lens ++ replicate k 1) ≡ item_count lens
item_count-ones [] zero = refl
item_count-ones [] (suc k) = let ih : item_count (replicate k 1) ≡ 1 = item_count-ones [] k in omega (arith, ih)
item_count-ones (len ∷ lens) k = ap (λ n. len * n) (item_count-ones lens k)

-- so many more than a number, on the same run
pub same_run : (b k len : ℕ) → b % len + k < len → ((b + k) % len ≡ b % len + k) × ((b + k) / len ≡ b / len)
same_run b k len h =
    let e : b / len * len + b % len ≡ b = div-add-mod' b len in
    let e2 : b + k ≡ b / len * len + (b % len + k) = omega (arith, e) in
    (ap (λ n. n % len) e2 ∙ mod-mul-add (b / len) len (b % len + k) h, ap (λ n. n / len) e2 ∙ div-mul-add (b / len) len (b % len + k) h)

-- whole runs
pub whole_runs : (len q : ℕ) → 1 ≤ len → ((len * q) % len ≡ 0) × ((len * q) / len ≡ q)
whole_runs len q h =
    let e : len * q ≡ q * len + 0 = omega arith in
    let lt : 0 < len = omega arith in
    (ap (λ n. n % len) e ∙ mod-mul-add q len 0 lt, ap (λ n. n / len) e ∙ div-mul-add q len 0 lt)

-- the last of some whole runs
pub last_of_runs : (len q m : ℕ) → 1 ≤ len → 1 ≤ m → ((len * q + len * m - 1) % len ≡ len - 1) × ((len * q + len * m - 1) / len ≡ q + m - 1)
last_of_runs len q zero h k = absurd (omega arith)
last_of_runs len q (suc m) h k =
    let e : len * q + len * suc m - 1 ≡ (q + m) * len + (len - 1) = omega arith in
    let lt : len - 1 < len = omega arith in
    let e3 : q + suc m - 1 ≡ q + m = omega arith in
    (ap (λ n. n % len) e ∙ mod-mul-add (q + m) len (len - 1) lt, ap (λ n. n / len) e ∙ div-mul-add (q + m) len (len - 1) lt ∙ sym e3)

mod_small : (n : ℕ) → n < 18446744073709551616 → n % 18446744073709551616 ≡ n
mod_small n h = omega arith

-- four factors, wrapped at each product, where the whole product is small
pub wrapped_four : (lens : List ℕ) → length lens ≡ 4 → item_count lens ≤ most_items →
    get_or lens 0 0 * get_or lens 1 0 % 18446744073709551616 * get_or lens 2 0 % 18446744073709551616 * get_or lens 3 0 % 18446744073709551616 ≡ item_count lens
wrapped_four (a ∷ b ∷ c ∷ d ∷ []) e few =
    let all : a * (b * (c * (d * 1))) ≡ a * b * c * d = omega arith in
    let small : a * b * c * d < 18446744073709551616 = omega (arith, few, all) in
    ap (λ n. n * d % 18446744073709551616) (mul-mod_first (a * b) c 18446744073709551616)
    ∙ mul-mod_first (a * b * c) d 18446744073709551616
    ∙ mod_small (a * b * c * d) small
    ∙ sym all
wrapped_four [] e few = absurd (omega (arith, e))
wrapped_four (a ∷ []) e few = absurd (omega (arith, e))
wrapped_four (a ∷ b ∷ []) e few = absurd (omega (arith, e))
wrapped_four (a ∷ b ∷ c ∷ []) e few = absurd (omega (arith, e))
wrapped_four (a ∷ b ∷ c ∷ d ∷ x ∷ xs) e few = absurd (omega (arith, e))

-- a product is 0 exactly where a factor is
pub zero_of_product : (lens : List ℕ) → item_count lens ≡ 0 → Contains lens 0
zero_of_product [] e = absurd (omega (arith, e))
zero_of_product (zero ∷ lens) e = (0, omega arith, refl)
zero_of_product (suc len ∷ lens) e =
    let rest : Contains lens 0 = zero_of_product lens (omega (arith, e)) in
    (suc rest.0, omega (arith, rest.1), rest.2)

pub product_of_zero : (lens : List ℕ) (k : ℕ) → k < length lens → get_or lens k 0 ≡ 0 → item_count lens ≡ 0
product_of_zero [] k h e = absurd (omega arith)
product_of_zero (len ∷ lens) zero h e = rw e (omega arith)
product_of_zero (len ∷ lens) (suc k) h e = let ih : item_count lens ≡ 0 = product_of_zero lens k (omega arith) e in rw ih (omega arith)

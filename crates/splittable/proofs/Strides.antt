-- The cut of a box by its stride: how many items share one place on the axis that is cut.
use Rattle.std.proofs.Common.{◌≡◌, ℕ, zero, suc, ◌*◌, ◌/◌, ◌<◌, ◌≤◌, inl, inr, true, false, nat_le, if◌then◌else◌, List, [], ◌∷◌, length, get_or, refl, sym, ap, ◌∙◌, arith}
use Rattle.std.proofs.Math.Nat.{mul-le-mul_left, mul-div_cancel_left}
use Rattle.std.proofs.lemmas.Bool.Decides.{nat_tests}
use Rattle.splittable.specs.Places.{item_count}
use Rattle.splittable.specs.Fields.{IsBox, cut}
use Rattle.splittable.proofs.Products.{left_positive, right_positive}
use Rattle.splittable.proofs.Boxes.{cut-in_run, cut-of_runs}

-- the cut of n items whose windows are cut at this stride
abbrev pub left_by : ℕ → ℕ → ℕ
left_by stride n = n / stride / 2 * stride

-- the cut of n items, found from the fastest axis on
pub strided : ℕ → List ℕ → ℕ → ℕ
strided stride [] n = 0
strided stride (len ∷ lens) n = if nat_le n (stride * len) then left_by stride n else strided (stride * len) lens n

strided-here : (stride len : ℕ) (lens : List ℕ) (n : ℕ) → n ≤ stride * len → strided stride (len ∷ lens) n ≡ left_by stride n
unfolding strided
strided-here stride len lens n h = let e : nat_le n (stride * len) ≡ true = grind (arith, nat_tests) in rw e refl

strided-later : (stride len : ℕ) (lens : List ℕ) (n : ℕ) → stride * len < n → strided stride (len ∷ lens) n ≡ strided (stride * len) lens n
unfolding strided
strided-later stride len lens n h = let e : nat_le n (stride * len) ≡ false = grind (arith, nat_tests) in rw e refl

strided-one_run : (stride len : ℕ) (lens : List ℕ) (n : ℕ) → 1 ≤ stride → n ≤ len → strided stride (len ∷ lens) (stride * n) ≡ stride * cut (len ∷ lens) n
strided-one_run stride len lens n some le =
    let back : stride * n / stride ≡ n = mul-div_cancel_left n (omega arith) in
    let e : left_by stride (stride * n) ≡ stride * (n / 2) = rw back (omega arith) in
    strided-here stride len lens (stride * n) (mul-le-mul_left stride le) ∙ e ∙ ap (λ k. stride * k) (sym (cut-in_run len lens n le))

mul-lt : (s m : ℕ) → 1 ≤ s → s < s * suc (suc m)
mul-lt s m some = let two : 2 ≤ suc (suc m) = omega arith in omega (arith, mul-le-mul_left s two)

pub strided-cut : (stride : ℕ) (lens : List ℕ) (b n : ℕ) → 1 ≤ stride → IsBox lens b n → strided stride lens (stride * n) ≡ stride * cut lens n
unfolding strided
strided-cut stride [] b n some h = omega arith
strided-cut stride (len ∷ lens) b n some (inl h) = strided-one_run stride len lens n some (omega arith)
strided-cut stride (zero ∷ lens) b n some (inr (q, m, eb, en, h)) = strided-one_run stride 0 lens n some (omega (arith, en))
strided-cut stride (suc len ∷ lens) b n some (inr (q, zero, eb, en, h)) = strided-one_run stride (suc len) lens n some (omega (arith, en))
strided-cut stride (suc len ∷ lens) b n some (inr (q, suc zero, eb, en, h)) = strided-one_run stride (suc len) lens n some (omega (arith, en))
strided-cut stride (suc len ∷ lens) b n some (inr (q, suc (suc m), eb, en, h)) =
    let one : 1 ≤ suc len = omega arith in
    let wide : 1 ≤ stride * suc len = omega (arith, mul-le-mul_left stride one) in
    let later : stride * suc len < stride * suc len * suc (suc m) = mul-lt (stride * suc len) m wide in
    let ih : strided (stride * suc len) lens (stride * suc len * suc (suc m)) ≡ stride * suc len * cut lens (suc (suc m)) = strided-cut (stride * suc len) lens q (suc (suc m)) wide h in
    let split : stride * (suc len * suc (suc m)) ≡ stride * suc len * suc (suc m) = omega arith in
    let cut_is : cut (suc len ∷ lens) (suc len * suc (suc m)) ≡ suc len * cut lens (suc (suc m)) = cut-of_runs (suc len) lens (suc (suc m)) (omega arith) (omega arith) in
    rw (en, split, cut_is) (strided-later stride (suc len) lens (stride * suc len * suc (suc m)) later ∙ ih ∙ omega arith)

-- the cut on four axes
pub record FourCuts (a b c : ℕ) (lens : List ℕ) (n : ℕ) : Type 0 where
  pub on_first : n ≤ a → left_by 1 n ≡ cut lens n
  pub on_second : a < n → n ≤ a * b → left_by a n ≡ cut lens n
  pub on_third : a * b < n → a < n → n ≤ a * b * c → left_by (a * b) n ≡ cut lens n
  pub on_fourth : a * b * c < n → a * b < n → a < n → left_by (a * b * c) n ≡ cut lens n

four_cuts : (a b c d before n : ℕ) → n ≤ item_count (a ∷ b ∷ c ∷ d ∷ []) → IsBox (a ∷ b ∷ c ∷ d ∷ []) before n → FourCuts a b c (a ∷ b ∷ c ∷ d ∷ []) n
four_cuts a b c d before n most h =
    let e : strided 1 (a ∷ b ∷ c ∷ d ∷ []) (1 * n) ≡ 1 * cut (a ∷ b ∷ c ∷ d ∷ []) n = strided-cut 1 (a ∷ b ∷ c ∷ d ∷ []) before n (omega arith) h in
    let one : 1 * n ≡ n = omega arith in
    let one' : 1 * cut (a ∷ b ∷ c ∷ d ∷ []) n ≡ cut (a ∷ b ∷ c ∷ d ∷ []) n = omega arith in
    let is : cut (a ∷ b ∷ c ∷ d ∷ []) n ≡ strided 1 (a ∷ b ∷ c ∷ d ∷ []) n = sym one' ∙ sym e ∙ ap (strided 1 (a ∷ b ∷ c ∷ d ∷ [])) one in
    let first : 1 * a ≡ a = omega arith in
    record {
      on_first = λ le. sym (is ∙ strided-here 1 a (b ∷ c ∷ d ∷ []) n (omega arith));
      on_second = λ more le. sym (is ∙ strided-later 1 a (b ∷ c ∷ d ∷ []) n (omega arith) ∙ (rw first (strided-here a b (c ∷ d ∷ []) n le)));
      on_third = λ more' more le. sym (is ∙ strided-later 1 a (b ∷ c ∷ d ∷ []) n (omega arith) ∙ (rw first (strided-later a b (c ∷ d ∷ []) n more' ∙ strided-here (a * b) c (d ∷ []) n le)));
      on_fourth = λ more'' more' more. sym (is ∙ strided-later 1 a (b ∷ c ∷ d ∷ []) n (omega arith) ∙ (rw first (strided-later a b (c ∷ d ∷ []) n more' ∙ strided-later (a * b) c (d ∷ []) n more'' ∙ strided-here (a * b * c) d [] n (omega (arith, most)))));
    }

-- the same of four lengths in a list
pub cuts_of_four : (lens : List ℕ) (before n : ℕ) → length lens ≡ 4 → n ≤ item_count lens → IsBox lens before n →
    FourCuts (get_or lens 0 0) (get_or lens 1 0) (get_or lens 2 0) lens n
cuts_of_four (a ∷ b ∷ c ∷ d ∷ []) before n e most h = four_cuts a b c d before n most h
cuts_of_four [] before n e most h = absurd (omega (arith, e))
cuts_of_four (a ∷ []) before n e most h = absurd (omega (arith, e))
cuts_of_four (a ∷ b ∷ []) before n e most h = absurd (omega (arith, e))
cuts_of_four (a ∷ b ∷ c ∷ []) before n e most h = absurd (omega (arith, e))
cuts_of_four (a ∷ b ∷ c ∷ d ∷ x ∷ xs) before n e most h = absurd (omega (arith, e))

-- the products on the way to the product of four lengths
pub record FourProducts (a b c : ℕ) (count : ℕ) : Type 0 where
  pub first : 1 ≤ a
  pub second : 1 ≤ a * b
  pub third : 1 ≤ a * b * c
  pub first_most : a ≤ count
  pub second_most : a * b ≤ count
  pub third_most : a * b * c ≤ count

pub products_of_four : (lens : List ℕ) → length lens ≡ 4 → 1 ≤ item_count lens → FourProducts (get_or lens 0 0) (get_or lens 1 0) (get_or lens 2 0) (item_count lens)
products_of_four (a ∷ b ∷ c ∷ d ∷ []) e some =
    let abcd : 1 ≤ (a * b * c) * d = omega (arith, some) in
    let abc : 1 ≤ a * b * c = left_positive (a * b * c) d abcd in
    let d1 : 1 ≤ d = right_positive (a * b * c) d abcd in
    let ab : 1 ≤ a * b = left_positive (a * b) c abc in
    let c1 : 1 ≤ c = right_positive (a * b) c abc in
    let a1 : 1 ≤ a = left_positive a b ab in
    let b1 : 1 ≤ b = right_positive a b ab in
    let m1 : a ≤ a * b = omega (arith, mul-le-mul_left a b1) in
    let m2 : a * b ≤ a * b * c = omega (arith, mul-le-mul_left (a * b) c1) in
    let m3 : a * b * c ≤ a * b * c * d = omega (arith, mul-le-mul_left (a * b * c) d1) in
    let all : a * (b * (c * (d * 1))) ≡ a * b * c * d = omega arith in
    record {
      first = a1;
      second = ab;
      third = abc;
      first_most = omega arith;
      second_most = omega arith;
      third_most = omega arith;
    }
products_of_four [] e some = absurd (omega (arith, e))
products_of_four (a ∷ []) e some = absurd (omega (arith, e))
products_of_four (a ∷ b ∷ []) e some = absurd (omega (arith, e))
products_of_four (a ∷ b ∷ c ∷ []) e some = absurd (omega (arith, e))
products_of_four (a ∷ b ∷ c ∷ d ∷ x ∷ xs) e some = absurd (omega (arith, e))

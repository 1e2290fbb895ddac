-- Numbers are spelled by the digits that are written of them.
use Rattle.std.proofs.Common.{◌≡◌, ℕ, suc, ◌<◌, ◌≤◌, ◌^◌, Bool, false, cond, List, pos, negsuc, neg_ℤ, ap, ◌∙◌, arith}
use Rattle.std.specs.Fmt.{signed_decimal}
use Rattle.std.proofs.lemmas.Bool.Decides.{nat_tests}
use Rattle.loop_tokens.specs.Literals.{number_of}
use Rattle.loop_exprs.specs.Operations.{is_wide, positive_value, is_wide_negative, negative_value}
use Rattle.loop_layout.proofs.ReadableTokens.{readable_numbers}

-- the digits that are written of n
abbrev pub digits_of : ℕ → List ℕ
digits_of n = signed_decimal (pos n)

pub not_wide : (n : ℕ) → is_wide n ≡ false → n < 2 ^ 64
not_wide n h = let le : n < 2 ^ 63 = grind (arith, nat_tests) in omega arith

pub not_wide_negative : (n : ℕ) → is_wide_negative n ≡ false → n < 2 ^ 64
not_wide_negative n h = let le : n ≤ 2 ^ 63 = grind (arith, nat_tests) in omega arith

-- the value of a number that isn't too wide
pub positive_there : (n : ℕ) → is_wide n ≡ false → positive_value n ≡ pos n
positive_there n h = ap (λ (t : Bool). cond t (pos 0) (pos n)) h

pub negative_there : (n : ℕ) → is_wide_negative n ≡ false → negative_value n ≡ neg_ℤ (pos n)
negative_there n h = ap (λ (t : Bool). cond t (pos 0) (neg_ℤ (pos n))) h

-- read back, a number is what was written, and isn't too wide
pub record PositiveBack (n : ℕ) : Type 0 where
  pub value : positive_value (number_of (digits_of n)) ≡ pos n
  pub wide : is_wide (number_of (digits_of n)) ≡ false

pub positive_back : (n : ℕ) → is_wide n ≡ false → PositiveBack n
positive_back n h =
    let back : number_of (digits_of n) ≡ n = (readable_numbers n (not_wide n h)).1 in
    record { value = ap positive_value back ∙ positive_there n h; wide = ap is_wide back ∙ h }

pub record NegativeBack (n : ℕ) : Type 0 where
  pub value : negative_value (number_of (digits_of (suc n))) ≡ negsuc n
  pub wide : is_wide_negative (number_of (digits_of (suc n))) ≡ false

pub negative_back : (n : ℕ) → is_wide_negative (suc n) ≡ false → NegativeBack n
negative_back n h =
    let back : number_of (digits_of (suc n)) ≡ suc n = (readable_numbers (suc n) (not_wide_negative (suc n) h)).1 in
    record { value = ap negative_value back ∙ negative_there (suc n) h; wide = ap is_wide_negative back ∙ h }

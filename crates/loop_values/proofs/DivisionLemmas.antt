-- What `mod` gives splits a number into a multiple of the divisor and a rest between 0 and the divisor.
use Rattle.std.proofs.Common.{◌≡◌, ◌≢◌, ℕ, zero, suc, ◌<◌, Bool, true, false, Ok, Err, inl, inr, refl, ap, sym, ◌∙◌, subst, arith}
use Rattle.std.specs.Prelude.{ℤ, pos, negsuc, ◌+ℤ◌, ◌-ℤ◌, ◌*ℤ◌, int_div, int_rem, unsigned_abs, if◌then◌else◌, ◌||◌, int_lt}
use Rattle.std.specs.Ordering.{int_eq}
use Rattle.std.proofs.Math.IntN.{pred_ℤ, pred_ℤ-*ℤ}
use Rattle.std.proofs.lemmas.Int.{ints, quot-rem, rem_below}
use Rattle.std.proofs.lemmas.Bool.Decides.{Decides-int_eq}
use Rattle.loop_data.specs.ValueParts.{same_bool}
use Rattle.loop_data.specs.declared.value.Value.TheVariants.{Int}
use Rattle.loop_values.specs.declared.stop.EvalStop.TheVariants.{DivideError}
use Rattle.loop_values.specs.Operations.{with_sign_of, modulo}
use Rattle.loop_values.specs.Division.{IsBetween, IsModulo}

regrouped : (x y b r : ℤ) → y ≡ x -ℤ b → x +ℤ r ≡ y +ℤ (r +ℤ b)
regrouped x y b r e = omega (arith, ints)

-- the rest moved by one divisor
moved : (q b r : ℤ) → q *ℤ b +ℤ r ≡ pred_ℤ q *ℤ b +ℤ (r +ℤ b)
moved q b r = regrouped (q *ℤ b) (pred_ℤ q *ℤ b) b r (pred_ℤ-*ℤ q b)

not_below : (n : ℕ) → int_lt (pos n) (pos 0) ≡ false
not_below n = grind (arith, ints)

-- a rest that has the sign of the divisor stays
abbrev moved_by : Bool → Bool → Bool → ℤ → ℤ → ℤ
moved_by x y z b r = if x || same_bool y z then r else r +ℤ b

same_signs : (b r : ℤ) (x y z : Bool) → int_lt r (pos 0) ≡ y → int_lt b (pos 0) ≡ z → same_bool y z ≡ true → int_eq r (pos 0) ≡ x → with_sign_of b r ≡ r
same_signs b r true y z ey ez s ex = ap (λ t. moved_by t (int_lt r (pos 0)) (int_lt b (pos 0)) b r) ex
same_signs b r false y z ey ez s ex =
    ap (λ t. moved_by t (int_lt r (pos 0)) (int_lt b (pos 0)) b r) ex
    ∙ ap (λ t. moved_by false t (int_lt b (pos 0)) b r) ey
    ∙ ap (λ t. moved_by false y t b r) ez
    ∙ ap (λ t. if t then r else r +ℤ b) s

kept : (q b r m : ℤ) → m ≡ r → IsBetween r b → IsModulo (q *ℤ b +ℤ r) b m
kept q b r m e h = subst (IsModulo (q *ℤ b +ℤ r) b) (sym e) (q, refl, h)

not_zero : (n : ℕ) (t : Bool) → int_eq (pos (suc n)) (pos 0) ≡ t → t ≡ false
not_zero n true e =
    let k : suc n ≡ 0 = ap unsigned_abs ((Decides-int_eq (pos (suc n)) (pos 0)).0 e) in absurd (omega arith)
not_zero n false e = refl

other_signs : (b r : ℤ) (y z : Bool) → int_eq r (pos 0) ≡ false → int_lt r (pos 0) ≡ y → int_lt b (pos 0) ≡ z → same_bool y z ≡ false → with_sign_of b r ≡ r +ℤ b
other_signs b r y z ex ey ez s =
    ap (λ t. moved_by t (int_lt r (pos 0)) (int_lt b (pos 0)) b r) ex
    ∙ ap (λ t. moved_by false t (int_lt b (pos 0)) b r) ey
    ∙ ap (λ t. moved_by false y t b r) ez
    ∙ ap (λ t. if t then r else r +ℤ b) s

moved_to : (q b r m : ℤ) → m ≡ r +ℤ b → IsBetween (r +ℤ b) b → IsModulo (q *ℤ b +ℤ r) b m
moved_to q b r m e h = subst (IsModulo (q *ℤ b +ℤ r) b) (sym e) (pred_ℤ q, moved q b r, h)

-- the rest of a truncated division, moved to the sign of the divisor
split : (q b r : ℤ) → unsigned_abs r < unsigned_abs b → IsModulo (q *ℤ b +ℤ r) b (with_sign_of b r)
split q (pos zero) r lt = absurd (omega arith)
split q (pos (suc k)) (pos zero) lt = (q, refl, inl (omega (arith, ints), omega (arith, ints)))
split q (pos (suc k)) (pos (suc n)) lt =
    kept q (pos (suc k)) (pos (suc n)) _ (same_signs (pos (suc k)) (pos (suc n)) _ false false (not_below (suc n)) (not_below (suc k)) refl refl) (inl (omega (arith, ints), omega (arith, ints)))
split q (pos (suc k)) (negsuc n) lt =
    moved_to q (pos (suc k)) (negsuc n) _ (other_signs (pos (suc k)) (negsuc n) true false refl refl (not_below (suc k)) refl) (inl (omega (arith, ints), omega (arith, ints)))
split q (negsuc k) (pos zero) lt = (q, refl, inr (omega (arith, ints), omega (arith, ints)))
split q (negsuc k) (pos (suc n)) lt =
    moved_to q (negsuc k) (pos (suc n)) _ (other_signs (negsuc k) (pos (suc n)) false true (not_zero n _ refl) (not_below (suc n)) refl refl) (inr (omega (arith, ints), omega (arith, ints)))
split q (negsuc k) (negsuc n) lt = (q, refl, inr (omega (arith, ints), omega (arith, ints)))

positive : (b : ℤ) → b ≢ pos 0 → 0 < unsigned_abs b
positive (pos zero) ne = absurd (ne refl)
positive (pos (suc k)) ne = omega arith
positive (negsuc k) ne = omega arith

no_fault : (a b : ℤ) (t : Bool) → int_eq b (pos 0) ≡ t → b ≢ pos 0 → modulo a b ≡ Ok (Int (with_sign_of b (int_rem a b)))
no_fault a b true e ne = absurd (ne ((Decides-int_eq b (pos 0)).0 e))
no_fault a b false e ne = ap (λ t. if t then Err DivideError else Ok (Int (with_sign_of b (int_rem a b)))) e

same_modulo : (a c b m : ℤ) → c ≡ a → IsModulo c b m → IsModulo a b m
same_modulo a c b m e h = (h.0, sym e ∙ h.1, h.2)

pub modulo_splits : (a b : ℤ) → b ≢ pos 0 → (m : ℤ) × (modulo a b ≡ Ok (Int m)) × IsModulo a b m
modulo_splits a b ne =
    (with_sign_of b (int_rem a b), no_fault a b (int_eq b (pos 0)) refl ne, same_modulo a _ b _ (quot-rem a b) (split (int_div a b) b (int_rem a b) (rem_below a b (positive b ne))))

-- The items of a range lie between its first and its last, and so fit 64 bits.
use Rattle.std.proofs.Common.{◌≡◌, ◌≢◌, ℕ, zero, suc, ◌+◌, ◌*◌, ◌/◌, ◌<◌, ◌≤◌, inl, inr, Bool, true, false, if◌then◌else◌, refl, subst, arith, ◌↔◌}
use Rattle.std.specs.Prelude.{ℤ, pos, negsuc, ◌+ℤ◌, ◌-ℤ◌, ◌*ℤ◌, FitsSigned, int_lt, unsigned_abs}
use Rattle.std.specs.Int.{w64}
use Rattle.std.proofs.Math.Nat.{mul-le-mul_left, mul-div-le, div-le_self}
use Rattle.std.proofs.lemmas.Int.{ints}
use Rattle.std.proofs.lemmas.Nat.{le-div}
use Rattle.number_ranges.specs.Ranges.{range_count, range_item, lies_behind, most_range_items}
use Rattle.number_ranges.specs.Laws.{LiesBetween}

-- the distance of two numbers
apart_up : (f l : ℤ) → int_lt l f ≡ false → l ≡ f +ℤ pos (unsigned_abs (l -ℤ f))
apart_up f l h = grind (arith, ints)

apart_down : (f l : ℤ) → int_lt f l ≡ false → f ≡ l +ℤ pos (unsigned_abs (l -ℤ f))
apart_down f l h = grind (arith, ints)

-- so many steps of a size stay within a distance
steps_within : (k d size : ℕ) → k < d / size + 1 → k * size ≤ d
steps_within k d size h =
    let le : k ≤ d / size = omega arith in
    let e : size * k ≤ size * (d / size) = mul-le-mul_left size le in
    omega (arith, e, mul-div-le d size)

up_between : (f l : ℤ) (m d : ℕ) → l ≡ f +ℤ pos d → m ≤ d → LiesBetween f l (f +ℤ pos m)
up_between f l m d e h = inl (omega (arith, ints), omega (arith, ints))

down_between : (f l : ℤ) (m d : ℕ) → f ≡ l +ℤ pos d → m ≤ d → LiesBetween f l (f -ℤ pos m)
down_between f l m d e h = inr (omega (arith, ints), omega (arith, ints))

rising : (f l : ℤ) (p k : ℕ) (behind : Bool) → int_lt l f ≡ behind →
    k < (if behind then 0 else unsigned_abs (l -ℤ f) / suc p + 1) → LiesBetween f l (f +ℤ pos k *ℤ pos (suc p))
rising f l p k true e h = absurd (omega (arith, h))
rising f l p k false e h =
    up_between f l (k * suc p) (unsigned_abs (l -ℤ f)) (apart_up f l e) (steps_within k (unsigned_abs (l -ℤ f)) (suc p) h)

falling : (f l : ℤ) (p k : ℕ) (behind : Bool) → int_lt f l ≡ behind →
    k < (if behind then 0 else unsigned_abs (l -ℤ f) / suc p + 1) → LiesBetween f l (f +ℤ pos k *ℤ negsuc p)
falling f l p k true e h = absurd (omega (arith, h))
falling f l p k false e h =
    let low : LiesBetween f l (f -ℤ pos (k * suc p)) =
    down_between f l (k * suc p) (unsigned_abs (l -ℤ f)) (apart_down f l e) (steps_within k (unsigned_abs (l -ℤ f)) (suc p) h) in
    let same : f -ℤ pos (k * suc p) ≡ f +ℤ pos k *ℤ negsuc p = omega (arith, ints) in
    let P : ℤ → Type 0 = λ z. LiesBetween f l z in
    subst P same low

pub lies_between : (f s l : ℤ) (k : ℕ) → s ≢ pos 0 → k < range_count f s l → LiesBetween f l (range_item f s k)
lies_between f (pos zero) l k some h = absurd (some refl)
lies_between f (pos (suc p)) l k some h =
    let up : int_lt (pos (suc p)) (pos 0) ≡ false = grind (arith, ints) in
    rising f l p k (int_lt l f) refl (rw up at h)
lies_between f (negsuc p) l k some h = falling f l p k (int_lt f l) refl h

-- what lies between two numbers that fit fits
between_fits : (f l n : ℤ) → FitsSigned w64 f → FitsSigned w64 l → LiesBetween f l n → FitsSigned w64 n
between_fits f l n ff fl (inl h) = omega (arith, ints, h.0, h.1)
between_fits f l n ff fl (inr h) = omega (arith, ints, h.0, h.1)

pub item_fits : (f s l : ℤ) (k : ℕ) → FitsSigned w64 f → FitsSigned w64 l → s ≢ pos 0 → k < range_count f s l → FitsSigned w64 (range_item f s k)
item_fits f s l k ff fl some h = between_fits f l (range_item f s k) ff fl (lies_between f s l k some h)

-- two numbers that fit lie less than 2^64 apart
apart_bounded : (f l : ℤ) → FitsSigned w64 f → FitsSigned w64 l → unsigned_abs (l -ℤ f) < most_range_items
apart_bounded f l ff fl = omega (arith, ints)

count_when : (behind : Bool) (d n : ℕ) → d < n → (if behind then 0 else d + 1) ≤ n
count_when true d n h = omega arith
count_when false d n h = omega (arith, h)

pub count_bounded : (f s l : ℤ) → FitsSigned w64 f → FitsSigned w64 l → range_count f s l ≤ most_range_items
count_bounded f s l ff fl =
    let d = unsigned_abs (l -ℤ f) in
    let le : unsigned_abs (l -ℤ f) / unsigned_abs s ≤ unsigned_abs (l -ℤ f) = div-le_self (unsigned_abs (l -ℤ f)) (unsigned_abs s) in
    count_when (lies_behind f s l) (unsigned_abs (l -ℤ f) / unsigned_abs s) most_range_items (omega (arith, le, apart_bounded f l ff fl))

-- a number lies so many steps on within the range exactly where it does not lie past the last
above : (f l : ℤ) (m d : ℕ) → l ≡ f +ℤ pos d → m ≤ d → int_lt l (f +ℤ pos m) ≡ false
above f l m d e h = grind (arith, ints)

past_above : (f l : ℤ) (m d : ℕ) → l ≡ f +ℤ pos d → int_lt l (f +ℤ pos m) ≡ false → m ≤ d
past_above f l m d e h = grind (arith, ints)

under : (f l : ℤ) (m d : ℕ) → f ≡ l +ℤ pos d → m ≤ d → int_lt (f -ℤ pos m) l ≡ false
under f l m d e h = grind (arith, ints)

past_under : (f l : ℤ) (m d : ℕ) → f ≡ l +ℤ pos d → int_lt (f -ℤ pos m) l ≡ false → m ≤ d
past_under f l m d e h = grind (arith, ints)

behind_up : (f l : ℤ) (m : ℕ) → int_lt l f ≡ true → int_lt l (f +ℤ pos m) ≡ false → ⊥
behind_up f l m e h = grind (arith, ints)

behind_down : (f l : ℤ) (m : ℕ) → int_lt f l ≡ true → int_lt (f -ℤ pos m) l ≡ false → ⊥
behind_down f l m e h = grind (arith, ints)

-- the other way round
within_steps : (k d size : ℕ) → 1 ≤ size → k * size ≤ d → k < d / size + 1
within_steps k d size some h = omega (arith, le-div k d size some h)

rising_iff : (f l : ℤ) (p k : ℕ) (behind : Bool) → int_lt l f ≡ behind →
    (k < (if behind then 0 else unsigned_abs (l -ℤ f) / suc p + 1)) ↔ (int_lt l (f +ℤ pos k *ℤ pos (suc p)) ≡ false)
rising_iff f l p k true e = (λ h. absurd (omega (arith, h)), λ h. absurd (behind_up f l (k * suc p) e h))
rising_iff f l p k false e = (
  λ h. above f l (k * suc p) (unsigned_abs (l -ℤ f)) (apart_up f l e) (steps_within k (unsigned_abs (l -ℤ f)) (suc p) h),
  λ h. within_steps k (unsigned_abs (l -ℤ f)) (suc p) (omega arith) (past_above f l (k * suc p) (unsigned_abs (l -ℤ f)) (apart_up f l e) h),
)

falling_from : (f l : ℤ) (p k : ℕ) (behind : Bool) → int_lt f l ≡ behind →
    (k < (if behind then 0 else unsigned_abs (l -ℤ f) / suc p + 1)) ↔ (int_lt (f -ℤ pos (k * suc p)) l ≡ false)
falling_from f l p k true e = (λ h. absurd (omega (arith, h)), λ h. absurd (behind_down f l (k * suc p) e h))
falling_from f l p k false e = (
  λ h. under f l (k * suc p) (unsigned_abs (l -ℤ f)) (apart_down f l e) (steps_within k (unsigned_abs (l -ℤ f)) (suc p) h),
  λ h. within_steps k (unsigned_abs (l -ℤ f)) (suc p) (omega arith) (past_under f l (k * suc p) (unsigned_abs (l -ℤ f)) (apart_down f l e) h),
)

falling_iff : (f l : ℤ) (p k : ℕ) (behind : Bool) → int_lt f l ≡ behind →
    (k < (if behind then 0 else unsigned_abs (l -ℤ f) / suc p + 1)) ↔ (int_lt (f +ℤ pos k *ℤ negsuc p) l ≡ false)
falling_iff f l p k behind e =
    let same : f -ℤ pos (k * suc p) ≡ f +ℤ pos k *ℤ negsuc p = omega (arith, ints) in
    let P : ℤ → Type 0 = λ z. (k < (if behind then 0 else unsigned_abs (l -ℤ f) / suc p + 1)) ↔ (int_lt z l ≡ false) in
    subst P same (falling_from f l p k behind e)

pub in_range_iff : (f s l : ℤ) (k : ℕ) → s ≢ pos 0 → (k < range_count f s l) ↔ (lies_behind (f +ℤ pos k *ℤ s) s l ≡ false)
in_range_iff f (pos zero) l k some = absurd (some refl)
in_range_iff f (pos (suc p)) l k some = let up : int_lt (pos (suc p)) (pos 0) ≡ false = grind (arith, ints) in rw up (rising_iff f l p k (int_lt l f) refl)
in_range_iff f (negsuc p) l k some = falling_iff f l p k (int_lt f l) refl

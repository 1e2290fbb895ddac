-- Numbers that are so many steps apart.
use Rattle.std.proofs.Common.{◌≡◌, ℕ, zero, suc, ◌+◌, arith}
use Rattle.std.specs.Prelude.{ℤ, pos, ◌+ℤ◌, ◌*ℤ◌}
use Rattle.std.proofs.Math.IntN.{suc_ℤ-*ℤ}
use Rattle.std.proofs.lemmas.Int.{ints}
use Rattle.number_ranges.specs.Ranges.{range_item}

pub no_step : (f s : ℤ) → range_item f s 0 ≡ f
no_step f s = omega (arith, ints)

-- one step, and so many more
pub one_step : (f s : ℤ) (k : ℕ) → range_item (f +ℤ s) s k ≡ range_item f s (suc k)
one_step f s k =
    let e : pos (suc k) *ℤ s ≡ pos k *ℤ s +ℤ s = suc_ℤ-*ℤ (pos k) s in
    rw e (omega (arith, ints))

-- so many steps, and so many more
pub steps_add : (f s : ℤ) (m k : ℕ) → range_item (range_item f s m) s k ≡ range_item f s (m + k)
steps_add f s m zero = let e : m + 0 ≡ m = omega arith in rw e (no_step (range_item f s m) s)
steps_add f s m (suc k) =
    let e : m + suc k ≡ suc (m + k) = omega arith in
    let e1 : pos (suc k) *ℤ s ≡ pos k *ℤ s +ℤ s = suc_ℤ-*ℤ (pos k) s in
    let e2 : pos (suc (m + k)) *ℤ s ≡ pos (m + k) *ℤ s +ℤ s = suc_ℤ-*ℤ (pos (m + k)) s in
    let ih : f +ℤ pos m *ℤ s +ℤ pos k *ℤ s ≡ f +ℤ pos (m + k) *ℤ s = steps_add f s m k in
    rw (e, e1, e2) (omega (arith, ints, ih))

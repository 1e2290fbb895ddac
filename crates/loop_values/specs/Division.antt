-- What `mod` is to give: the rest of a number over a divisor, which lies between 0 and the divisor.
-- Source: Julia's `mod`.
use Rattle.std.specs.Prelude.{◌≡◌, ◌⊎◌, ℤ, pos, ◌+ℤ◌, ◌*ℤ◌, ◌≤ℤ◌, ◌<ℤ◌}

-- m lies between 0 and b, and isn't b
abbrev pub IsBetween : ℤ → ℤ → Type 0
IsBetween m b = ((pos 0 ≤ℤ m) × (m <ℤ b)) ⊎ ((b <ℤ m) × (m ≤ℤ pos 0))

-- a is a multiple of b and m, which lies between 0 and b
abbrev pub IsModulo : ℤ → ℤ → ℤ → Type 0
IsModulo a b m = (q : ℤ) × (a ≡ q *ℤ b +ℤ m) × IsBetween m b

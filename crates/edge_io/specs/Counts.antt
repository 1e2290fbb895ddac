-- Counts of calls and of faults, and when a count rose.
-- Source: this project.
use Rattle.std.specs.Prelude.{ℕ, zero, suc, ◌≡◌, ◌⊎◌, ◌+◌, ◌≤◌, min}

-- the last value of a counter
abbrev pub last_count : ℕ
last_count = 18446744073709551615

-- the counter after one more, which stands still at its last value
abbrev pub counted : ℕ → ℕ
counted before = min (before + 1) last_count

-- the counter after so many more
abbrev pub counted_times : ℕ → ℕ → ℕ
counted_times zero before = before
counted_times (suc times) before = counted (counted_times times before)

-- the count rose: it is larger than before, or it stands at the last value of a counter
abbrev pub Rose : ℕ → ℕ → Type 0
Rose before now = counted before ≤ now

-- the count rose by one and not more, or it stands at the last value of a counter
abbrev pub RoseByOne : ℕ → ℕ → Type 0
RoseByOne before now = now ≡ counted before

-- the count didn't rise
abbrev pub DidNotRise : ℕ → ℕ → Type 0
DidNotRise before now = Rose before now → ⊥

-- the count is as before, or it rose by one
abbrev pub RoseByOneAtMost : ℕ → ℕ → Type 0
RoseByOneAtMost before now = (now ≡ before) ⊎ RoseByOne before now

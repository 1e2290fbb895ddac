-- What the example jobs' answers stand for: wrapped sums of places, up to a place at which the loop stops or faults.
-- Source: this project.
use Rattle.std.specs.Prelude.{◌≡◌, ℕ, ◌+◌, ◌-◌, ◌%◌, ◌<◌, ◌≤◌, ◌⊎◌, ◌^◌, Option, Some, None, sum}
use Rattle.splittable.specs.Parts.{numbers_from}
use Rattle.fold_seq.specs.declared.answers.Reduced.{Reduced}
use Rattle.fold_seq.specs.declared.answers.Reduced.TheVariants.{Going, Stopped, Faulted}

-- the sum of so many places from the first on, wrapped in 64 bits
abbrev pub sum_of_places : ℕ → ℕ → ℕ
sum_of_places first n = sum (numbers_from first n) % 2 ^ 64

-- the wrapped sum of two sums
abbrev pub IsWrappedSum : ℕ → ℕ → ℕ → Type 0
IsWrappedSum left right total = total ≡ (left + right) % 2 ^ 64

-- a sum that no item stops
abbrev pub SumStands : ℕ → ℕ → Reduced ℕ → Type 0
SumStands first n (Going total) = total ≡ sum_of_places first n
SumStands first n (Stopped _ _ _) = ⊥
SumStands first n (Faulted _ _ _) = ⊥

-- the item at a place is one of so many from the first on
abbrev pub IsReached : ℕ → ℕ → ℕ → Type 0
IsReached at first n = (first ≤ at) × (at < first + n)

-- A sum that the item at a place stops, with that item included, or faults with this kind.
abbrev pub SumUntilStands : ℕ → ℕ → Option ℕ → ℕ → ℕ → Reduced ℕ → Type 0
SumUntilStands at line fault first n (Going total) = ((at < first) ⊎ (first + n ≤ at)) × (total ≡ sum_of_places first n)
SumUntilStands at line fault first n (Stopped at' line' total) =
    (fault ≡ None) × (at' ≡ at) × (line' ≡ line) × IsReached at first n × (total ≡ sum_of_places first (at + 1 - first))
SumUntilStands at line fault first n (Faulted at' line' kind) =
    (fault ≡ Some kind) × (at' ≡ at) × (line' ≡ line) × IsReached at first n

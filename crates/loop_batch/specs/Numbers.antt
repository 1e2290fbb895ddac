-- The numbers of a claim: the weight of all seats, and the numbers below a count.
-- Source: this project.
use Rattle.std.specs.Prelude.{ℕ, ◌<◌, List}
use Rattle.std.specs.List.{All, Contains, range_with_len}

-- the weight and the draws of all seats together
abbrev pub whole_weight : ℕ
whole_weight = 4294967296

-- the numbers from 0 on, so many of them
abbrev pub numbers_below : ℕ → List ℕ
numbers_below count = range_with_len 0 count

-- each number below a count is one of these
abbrev pub HasEachBelow : ℕ → List ℕ → Type 0
HasEachBelow count numbers = (n : ℕ) → n < count → Contains numbers n

-- each of these is less than a number
abbrev pub IsAbove : ℕ → List ℕ → Type 0
IsAbove number numbers = All (λ n. n < number) numbers

-- What the states of sums and products say of the list of their inputs.
-- Source: this project; the exact sum and the exact product are those of a tower's result.
use Rattle.std.specs.Prelude.{◌≡◌, List, All, ℤ, FitsSigned}
use Rattle.std.specs.Int.{w64, int_wrap}
use Rattle.loop_results.specs.Results.{sum_of, product_of}

-- the exact sum of inputs of 64 bits
abbrev pub IsSum : ℤ → List ℤ → Type 0
IsSum total xs = All (FitsSigned w64) xs × (total ≡ sum_of xs)

-- the exact product of the inputs, wrapped once in 64 bits
abbrev pub IsProduct : ℤ → List ℤ → Type 0
IsProduct product xs = product ≡ int_wrap w64 (product_of xs)

-- What the stages of the tests' pipelines let through, said apart from all code.
-- Source: this project, after Transducers.jl.
use Rattle.std.specs.Prelude.{ℕ, ◌-◌, List, [], ◌∷◌, ℤ, ◌*ℤ◌, int_lt, pos, Option, Some, None, Result, Ok, Err, slice_get}
use Rattle.std.specs.Int.{int_wrap, w64}
use Rattle.chain_stages.specs.declared.step_end.StepEnd.TheVariants.{Going}
use Rattle.transducer_kit.specs.declared.answers.PassStop.{PassStop}
use Rattle.transducer_kit.specs.declared.answers.PassStop.TheVariants as stop
use Rattle.transducer_kit.specs.Lists.{list_output, spread_of}
use Rattle.transducer_kit.specs.Passing.{Passed, one_ended, one_made, one_tested}

-- the numbers over 2
abbrev pub over_two : ℤ → Passed ℤ
over_two x = one_tested x (Ok (int_lt (pos 2) x))

-- the square, wrapped in 64 bits
abbrev pub squared : ℤ → Passed ℤ
squared x = one_made x (Ok (int_wrap w64 (x *ℤ x)))

-- the number; after the first over 20 the fold ends on line 4
abbrev pub until_over_twenty : ℤ → Passed ℤ
until_over_twenty x = one_ended 4 x (Ok (int_lt (pos 20) x))

-- a list through a stage, with what comes after it
abbrev pub staged : {X Y : Type 0} → (X → Passed Y) → Passed X → Passed Y
staged stage list = list_output stage list.0 list.1

-- the squares of the numbers over 2, up to and with the first over 20: stage by stage, each on the whole list
abbrev pub squares_of : List ℤ → Passed ℤ
squares_of numbers = staged until_over_twenty (staged squared (staged over_two (numbers, Ok Going)))

abbrev pub or_fault : Option ℤ → Result ℤ PassStop
or_fault None = Err (stop.Fault 1 1)
or_fault (Some number) = Ok number

-- the k-th number of a list, counted from 1; past its end a fault
abbrev pub told_number : List ℤ → ℕ → Result ℤ PassStop
told_number list k = or_fault (slice_get list (k - 1))

abbrev pub number_of : List ℤ → ℕ → Passed ℤ
number_of list k = one_made k (told_number list k)

-- the numbers of lists, each with the count of those that are asked of it, up to the first that isn't there
abbrev pub numbers_of : List (List ℤ × ℕ) → Passed ℤ
numbers_of lists = list_output (spread_of number_of) lists (Ok Going)

-- What the tests' own reducing function answers and leaves.
-- Source: this project.
use Rattle.std.specs.Prelude.{ℕ, ◌-◌, Bool, true, false, nat_le, int_lt, ℤ, pos}
use Rattle.chain_stages.specs.declared.step_end.StepEnd.{StepEnd}
use Rattle.chain_stages.specs.declared.step_end.StepEnd.TheVariants.{Going, Ended, Fault}

abbrev pub answer_by : (is_negative is_last : Bool) → StepEnd
answer_by true is_last = Fault 9 2
answer_by false true = Ended 9
answer_by false false = Going

abbrev pub left_by : (is_negative is_last : Bool) → ℕ → ℕ
left_by true is_last left = left
left_by false true left = 0
left_by false false left = left - 1

-- a negative item faults; else the last that is left ends
abbrev pub budget_answer : ℕ → ℤ → StepEnd
budget_answer left item = answer_by (int_lt item (pos 0)) (nat_le left 1)

abbrev pub budget_left : ℕ → ℤ → ℕ
budget_left left item = left_by (int_lt item (pos 0)) (nat_le left 1) left

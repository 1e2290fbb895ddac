-- A loop over places that may carry something from item to item, and what a run of it over some places gives.
-- Source: this project.
use Rattle.std.specs.Prelude.{◌≡◌, ℕ, zero, suc, ◌+◌, ◌%◌, ◌^◌, Bool, if◌then◌else◌}
use Rattle.fold_seq.specs.declared.answers.Reduced.{Reduced}
use Rattle.fold_seq.specs.declared.answers.Reduced.TheVariants.{Going, Stopped, Faulted}

-- what the first so many items of a run leave to the next one: the place of the last of them, and 0 where there is none
abbrev pub left_by : ℕ → ℕ → ℕ
left_by first zero = 0
left_by first (suc n) = first + n

-- what an item adds: its place, and what was left to it where the loop carries that
abbrev pub item_sum : Bool → ℕ → ℕ → ℕ
item_sum carries left place = if carries then place + left else place

-- a run over so many places from the first on
abbrev pub run_sum : Bool → ℕ → ℕ → ℕ
run_sum carries first zero = 0
run_sum carries first (suc n) = run_sum carries first n + item_sum carries (left_by first n) (first + n)

-- a run that no item stops gives its sum, wrapped in 64 bits
abbrev pub RunStands : Bool → ℕ → ℕ → Reduced ℕ → Type 0
RunStands carries first n (Going total) = total ≡ run_sum carries first n % 2 ^ 64
RunStands carries first n (Stopped _ _ _) = ⊥
RunStands carries first n (Faulted _ _ _) = ⊥

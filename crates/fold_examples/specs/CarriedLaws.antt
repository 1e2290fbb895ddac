-- The laws of what runs of a loop stand for. One of them holds only where the loop carries nothing.
-- Source: this project.
use Rattle.std.specs.Prelude.{◌≡◌, ℕ, zero, suc, ◌+◌, ◌%◌, ◌^◌, Bool, true, false}
use Rattle.std.proofs.Common.{refl, sym, ap, ap₂, ◌∙◌, arith}
use Rattle.fold_seq.specs.declared.answers.Reduced.TheVariants.{Going, Stopped, Faulted}
use Rattle.fold_seq.specs.Standing.{UnitStands, MergeStands, StopStands, StopLies, EndsAlike}
use Rattle.fold_examples.specs.Sums.{sum_of_places, IsWrappedSum}
use Rattle.fold_examples.specs.SumLaws.{sum_of_places-none, sum_of_places-next, sum_of_places-add}
use Rattle.fold_examples.specs.Carried.{run_sum, RunStands}

wrapped_more : (total more : ℕ) → (total + more) % 2 ^ 64 ≡ (total % 2 ^ 64 + more) % 2 ^ 64
wrapped_more total more = omega arith

-- where nothing is carried, a run gives the sum of its places, wherever it begins
run_sum-apart : (first n : ℕ) → run_sum false first n % 2 ^ 64 ≡ sum_of_places first n
run_sum-apart first zero = sum_of_places-none first
run_sum-apart first (suc n) =
    let e : n + 1 ≡ suc n = omega arith in
    wrapped_more (run_sum false first n) (first + n)
    ∙ ap (λ t. (t + (first + n)) % 2 ^ 64) (run_sum-apart first n)
    ∙ sym (sum_of_places-next first n)
    ∙ ap (sum_of_places first) e

merge_apart : MergeStands (RunStands false) IsWrappedSum
merge_apart first n m left (Going right) (Going whole) one h k c =
    c
    ∙ ap₂ (λ a b. (a + b) % 2 ^ 64) (h ∙ run_sum-apart first n) (k ∙ run_sum-apart (first + n) m)
    ∙ sym (sum_of_places-add first n m)
    ∙ sym (run_sum-apart first (n + m))
merge_apart first n m left (Going right) (Stopped _ _ _) one h k c = absurd c
merge_apart first n m left (Going right) (Faulted _ _ _) one h k c = absurd c
merge_apart first n m left (Stopped _ _ _) whole one h k c = absurd k
merge_apart first n m left (Faulted _ _ _) whole one h k c = absurd k

-- this law is false of a loop that carries
pub run_merge : (carries : Bool) → carries ≡ false → MergeStands (RunStands carries) IsWrappedSum
run_merge false nothing = merge_apart
run_merge true nothing = absurd cc

pub run_unit : (carries : Bool) → UnitStands (RunStands carries) (λ state. state ≡ 0)
run_unit carries state first one h = h

pub run_stop : (carries : Bool) → StopStands (RunStands carries)
run_stop carries first n m (Going _) one stop h = absurd stop
run_stop carries first n m (Stopped _ _ _) one stop h = h
run_stop carries first n m (Faulted _ _ _) one stop h = h

pub run_lies : (carries : Bool) → StopLies (RunStands carries)
run_lies carries first n (Going _) one h = tt
run_lies carries first n (Stopped _ _ _) one h = absurd h
run_lies carries first n (Faulted _ _ _) one h = absurd h

pub run_ends : (carries : Bool) → EndsAlike (RunStands carries)
run_ends carries first n (Going _) (Going _) one h k = refl
run_ends carries first n (Going _) (Stopped _ _ _) one h k = absurd k
run_ends carries first n (Going _) (Faulted _ _ _) one h k = absurd k
run_ends carries first n (Stopped _ _ _) other one h k = absurd h
run_ends carries first n (Faulted _ _ _) other one h k = absurd h

-- The laws of what wrapped sums stand for.
-- Source: this project.
use Rattle.std.specs.Prelude.{◌≡◌, ℕ, ◌+◌, ◌%◌, ◌^◌, sum}
use Rattle.std.proofs.Common.{refl, sym, ap, ◌∙◌, arith}
use Rattle.std.proofs.lemmas.List.Sums.{sum_by-append}
use native.Mathlib.Nat.{add-mod}
use Rattle.splittable.specs.Parts.{numbers_from}
use Rattle.splittable.proofs.PartHalves.{numbers_from-add}
use Rattle.fold_seq.specs.declared.answers.Reduced.TheVariants.{Going, Stopped, Faulted}
use Rattle.fold_seq.specs.Standing.{UnitStands, MergeStands, StopStands, StopLies, EndsAlike}
use Rattle.fold_examples.specs.Sums.{sum_of_places, IsWrappedSum, SumStands}

-- the sum of two stretches next to each other
pub sum_of_places-add : (first n m : ℕ) → sum_of_places first (n + m)
    ≡ (sum_of_places first n + sum_of_places (first + n) m) % 2 ^ 64
sum_of_places-add first n m =
    let both : sum (numbers_from first (n + m)) ≡ sum (numbers_from first n) + sum (numbers_from (first + n) m) =
    ap sum (numbers_from-add first n m) ∙ sum_by-append (λ x. x) (numbers_from first n) (numbers_from (first + n) m) in
    rw both (add-mod (sum (numbers_from first n)) (sum (numbers_from (first + n) m)) (2 ^ 64))

-- the sum of a stretch and one item more
pub sum_of_places-next : (first n : ℕ) → sum_of_places first (n + 1) ≡ (sum_of_places first n + (first + n)) % 2 ^ 64
unfolding numbers_from
sum_of_places-next first n =
    let one : sum (numbers_from (first + n) 1) ≡ first + n = omega arith in
    let both : sum (numbers_from first (n + 1)) ≡ sum (numbers_from first n) + (first + n) =
    ap sum (numbers_from-add first n 1) ∙ sum_by-append (λ x. x) (numbers_from first n) (numbers_from (first + n) 1)
    ∙ ap (λ k. sum (numbers_from first n) + k) one in
    rw both (omega arith)

pub sum_of_places-none : (first : ℕ) → 0 ≡ sum_of_places first 0
unfolding numbers_from
sum_of_places-none first = refl

pub sum_unit : UnitStands SumStands (λ state. state ≡ 0)
unfolding numbers_from
sum_unit state first one h = h

pub sum_merge : MergeStands SumStands IsWrappedSum
sum_merge first n m left (Going right) (Going whole) one h k c = rw (c, h, k) (sym (sum_of_places-add first n m))
sum_merge first n m left (Going right) (Stopped _ _ _) one h k c = absurd c
sum_merge first n m left (Going right) (Faulted _ _ _) one h k c = absurd c
sum_merge first n m left (Stopped _ _ _) whole one h k c = absurd k
sum_merge first n m left (Faulted _ _ _) whole one h k c = absurd k

pub sum_stop : StopStands SumStands
sum_stop first n m (Going _) one stop h = absurd stop
sum_stop first n m (Stopped _ _ _) one stop h = h
sum_stop first n m (Faulted _ _ _) one stop h = h

pub sum_lies : StopLies SumStands
sum_lies first n (Going _) one h = tt
sum_lies first n (Stopped _ _ _) one h = absurd h
sum_lies first n (Faulted _ _ _) one h = absurd h

pub sum_ends : EndsAlike SumStands
sum_ends first n (Going _) (Going _) one h k = refl
sum_ends first n (Going _) (Stopped _ _ _) one h k = absurd k
sum_ends first n (Going _) (Faulted _ _ _) one h k = absurd k
sum_ends first n (Stopped _ _ _) other one h k = absurd h
sum_ends first n (Faulted _ _ _) other one h k = absurd h

-- The laws of what a sum up to a place stands for.
-- Source: this project.
use Rattle.std.specs.Prelude.{◌≡◌, ℕ, ◌+◌, ◌-◌, ◌<◌, ◌≤◌, ◌⊎◌, Option, Some, None}
use Rattle.std.proofs.Common.{refl, sym, ap, ap₂, ◌∙◌, arith, inl, inr}
use Rattle.std.proofs.lemmas.Bool.{cases_lt}
use Rattle.splittable.specs.Parts.{numbers_from}
use Rattle.fold_seq.specs.declared.answers.Reduced.TheVariants.{Going, Stopped, Faulted}
use Rattle.fold_seq.specs.declared.answers.End.TheVariants as ends
use Rattle.fold_seq.specs.Standing.{UnitStands, MergeStands, StopStands, StopLies, EndsAlike}
use Rattle.fold_examples.specs.Sums.{IsWrappedSum, IsReached, SumUntilStands}
use Rattle.fold_examples.specs.SumLaws.{sum_of_places-add}

past : (at first : ℕ) → (at < first) ⊎ (first + 0 ≤ at)
past at first =
    elim (cases_lt at first) [
      | inl before ↦ inl before
      | inr after ↦ inr (omega (arith, after))
    ]

some_or_none : (o : Option ℕ) (kind : ℕ) → o ≡ None → o ≡ Some kind → ⊥
some_or_none o kind none some = cc

some_same : (o : Option ℕ) (kind kind' : ℕ) → o ≡ Some kind → o ≡ Some kind' → kind ≡ kind'
some_same o kind kind' one other = cc

pub until_unit : (at line : ℕ) (fault : Option ℕ) → UnitStands (SumUntilStands at line fault) (λ state. state ≡ 0)
unfolding numbers_from
until_unit at line fault state first one h = (past at first, h)

past_both : (at first n m : ℕ) → (at < first) ⊎ (first + n ≤ at) → (at < first + n) ⊎ (first + n + m ≤ at) →
    (at < first) ⊎ (first + (n + m) ≤ at)
past_both at first n m (inl before) h = inl before
past_both at first n m (inr after) (inl within) = absurd (omega (arith, after, within))
past_both at first n m (inr after) (inr later) = inr (omega (arith, later))

not_before : (at first n m : ℕ) → (at < first) ⊎ (first + n ≤ at) → IsReached at (first + n) m → first + n ≤ at
not_before at first n m (inl before) h = absurd (omega (arith, before, h.0))
not_before at first n m (inr after) h = after

pub until_merge : (at line : ℕ) (fault : Option ℕ) → MergeStands (SumUntilStands at line fault) IsWrappedSum
until_merge at line fault first n m left (Going right) (Going whole) one h k c =
    (past_both at first n m h.0 k.0, rw (c, h.1, k.1) (sym (sum_of_places-add first n m)))
until_merge at line fault first n m left (Going right) (Stopped _ _ _) one h k c = absurd c
until_merge at line fault first n m left (Going right) (Faulted _ _ _) one h k c = absurd c
until_merge at line fault first n m left (Stopped at' line' right) (Stopped at'' line'' whole) one h k c =
    let split : at + 1 - first ≡ n + (at + 1 - (first + n)) = omega (arith, k.3.0) in (
      k.0,
      c.0 ∙ k.1,
      c.1 ∙ k.2,
      (omega (arith, k.3.0), omega (arith, k.3.1)),
      rw (c.2, h.1, k.4, split) (sym (sum_of_places-add first n (at + 1 - (first + n)))),
    )
until_merge at line fault first n m left (Stopped _ _ _) (Going _) one h k c = absurd c
until_merge at line fault first n m left (Stopped _ _ _) (Faulted _ _ _) one h k c = absurd c
until_merge at line fault first n m left (Faulted at' line' kind) (Faulted at'' line'' kind') one h k c =
    (k.0 ∙ ap Some (sym c.2), c.0 ∙ k.1, c.1 ∙ k.2, (omega (arith, k.3.0), omega (arith, k.3.1)))
until_merge at line fault first n m left (Faulted _ _ _) (Going _) one h k c = absurd c
until_merge at line fault first n m left (Faulted _ _ _) (Stopped _ _ _) one h k c = absurd c

pub until_stop : (at line : ℕ) (fault : Option ℕ) → StopStands (SumUntilStands at line fault)
until_stop at line fault first n m (Going _) one stop h = absurd stop
until_stop at line fault first n m (Stopped _ _ _) one stop h = (h.0, h.1, h.2, (h.3.0, omega (arith, h.3.1)), h.4)
until_stop at line fault first n m (Faulted _ _ _) one stop h = (h.0, h.1, h.2, (h.3.0, omega (arith, h.3.1)))

pub until_lies : (at line : ℕ) (fault : Option ℕ) → StopLies (SumUntilStands at line fault)
until_lies at line fault first n (Going _) one h = tt
until_lies at line fault first n (Stopped _ _ _) one h = (omega (arith, h.1, h.3.0), omega (arith, h.1, h.3.1))
until_lies at line fault first n (Faulted _ _ _) one h = (omega (arith, h.1, h.3.0), omega (arith, h.1, h.3.1))

-- a place isn't both reached and not
both_ways : (at first n : ℕ) → (at < first) ⊎ (first + n ≤ at) → IsReached at first n → ⊥
both_ways at first n (inl before) h = absurd (omega (arith, before, h.0))
both_ways at first n (inr after) h = absurd (omega (arith, after, h.1))

pub until_ends : (at line : ℕ) (fault : Option ℕ) → EndsAlike (SumUntilStands at line fault)
until_ends at line fault first n (Going _) (Going _) one h k = refl
until_ends at line fault first n (Going _) (Stopped _ _ _) one h k = absurd (both_ways at first n h.0 k.3)
until_ends at line fault first n (Going _) (Faulted _ _ _) one h k = absurd (both_ways at first n h.0 k.3)
until_ends at line fault first n (Stopped _ _ _) (Going _) one h k = absurd (both_ways at first n k.0 h.3)
until_ends at line fault first n (Stopped _ _ _) (Stopped _ _ _) one h k =
    ap₂ (λ a l. ends.Stopped a l) (h.1 ∙ sym k.1) (h.2 ∙ sym k.2)
until_ends at line fault first n (Stopped _ _ _) (Faulted _ _ _) one h k = absurd (some_or_none fault _ h.0 k.0)
until_ends at line fault first n (Faulted _ _ _) (Going _) one h k = absurd (both_ways at first n k.0 h.3)
until_ends at line fault first n (Faulted _ _ _) (Stopped _ _ _) one h k = absurd (some_or_none fault _ k.0 h.0)
until_ends at line fault first n (Faulted _ line' kind) (Faulted at' line'' kind') one h k =
    let same : kind ≡ kind' = some_same fault kind kind' h.0 k.0 in
    ap₂ (λ a l. ends.Faulted a l kind) (h.1 ∙ sym k.1) (h.2 ∙ sym k.2) ∙ ap (λ z. ends.Faulted at' line'' z) same

-- A sum of places that the item at one place stops before it is summed, and the laws of a job of it.
-- Source: this project.
use Rattle.std.specs.Prelude.{◌≡◌, ℕ, ◌+◌, ◌-◌, ◌<◌, ◌≤◌, ◌⊎◌}
use Rattle.std.proofs.Common.{refl, sym, ap, ap₂, ◌∙◌, arith, inl, inr}
use Rattle.std.proofs.lemmas.Bool.{cases_lt}
use Rattle.splittable.specs.Parts.{numbers_from}
use Rattle.fold_seq.specs.declared.answers.Reduced.{Reduced}
use Rattle.fold_seq.specs.declared.answers.Reduced.TheVariants.{Going, Stopped, Faulted}
use Rattle.fold_seq.specs.declared.answers.End.TheVariants as ends
use Rattle.fold_seq.specs.Standing.{UnitStands, MergeStands, StopStands, StopLies, EndsAlike}
use Rattle.fold_examples.specs.Sums.{sum_of_places, IsWrappedSum, IsReached}
use Rattle.fold_examples.specs.SumLaws.{sum_of_places-add}

-- The sum of the items, none of which is the one at the place; or of those before it, from its line.
abbrev pub SumBeforeStands : ℕ → ℕ → ℕ → ℕ → Reduced ℕ → Type 0
SumBeforeStands at line first n (Going total) = ((at < first) ⊎ (first + n ≤ at)) × (total ≡ sum_of_places first n)
SumBeforeStands at line first n (Stopped at' line' total) =
    (at' ≡ at) × (line' ≡ line) × IsReached at first n × (total ≡ sum_of_places first (at - first))
SumBeforeStands at line first n (Faulted _ _ _) = ⊥

past : (at first : ℕ) → (at < first) ⊎ (first + 0 ≤ at)
past at first =
    elim (cases_lt at first) [
      | inl before ↦ inl before
      | inr after ↦ inr (omega (arith, after))
    ]

pub before_unit : (at line : ℕ) → UnitStands (SumBeforeStands at line) (λ state. state ≡ 0)
unfolding numbers_from
before_unit at line state first one h = (past at first, h)

past_both : (at first n m : ℕ) → (at < first) ⊎ (first + n ≤ at) → (at < first + n) ⊎ (first + n + m ≤ at) → (at < first) ⊎ (first + (n + m) ≤ at)
past_both at first n m (inl before) h = inl before
past_both at first n m (inr after) (inl within) = absurd (omega (arith, after, within))
past_both at first n m (inr after) (inr later) = inr (omega (arith, later))

pub before_merge : (at line : ℕ) → MergeStands (SumBeforeStands at line) IsWrappedSum
before_merge at line first n m left (Going right) (Going whole) one h k c =
    (past_both at first n m h.0 k.0, rw (c, h.1, k.1) (sym (sum_of_places-add first n m)))
before_merge at line first n m left (Going right) (Stopped _ _ _) one h k c = absurd c
before_merge at line first n m left (Going right) (Faulted _ _ _) one h k c = absurd c
before_merge at line first n m left (Stopped at' line' right) (Stopped at'' line'' whole) one h k c =
    let split : at - first ≡ n + (at - (first + n)) = omega (arith, k.2.0) in (
      c.0 ∙ k.0,
      c.1 ∙ k.1,
      (omega (arith, k.2.0), omega (arith, k.2.1)),
      rw (c.2, h.1, k.3, split) (sym (sum_of_places-add first n (at - (first + n)))),
    )
before_merge at line first n m left (Stopped _ _ _) (Going _) one h k c = absurd c
before_merge at line first n m left (Stopped _ _ _) (Faulted _ _ _) one h k c = absurd c
before_merge at line first n m left (Faulted _ _ _) whole one h k c = absurd k

pub before_stop : (at line : ℕ) → StopStands (SumBeforeStands at line)
before_stop at line first n m (Going _) one stop h = absurd stop
before_stop at line first n m (Stopped _ _ _) one stop h = (h.0, h.1, (h.2.0, omega (arith, h.2.1)), h.3)
before_stop at line first n m (Faulted _ _ _) one stop h = absurd h

pub before_lies : (at line : ℕ) → StopLies (SumBeforeStands at line)
before_lies at line first n (Going _) one h = tt
before_lies at line first n (Stopped _ _ _) one h = (omega (arith, h.0, h.2.0), omega (arith, h.0, h.2.1))
before_lies at line first n (Faulted _ _ _) one h = absurd h

-- a place isn't both reached and not
both_ways : (at first n : ℕ) → (at < first) ⊎ (first + n ≤ at) → IsReached at first n → ⊥
both_ways at first n (inl before) h = absurd (omega (arith, before, h.0))
both_ways at first n (inr after) h = absurd (omega (arith, after, h.1))

pub before_ends : (at line : ℕ) → EndsAlike (SumBeforeStands at line)
before_ends at line first n (Going _) (Going _) one h k = refl
before_ends at line first n (Going _) (Stopped _ _ _) one h k = absurd (both_ways at first n h.0 k.2)
before_ends at line first n (Stopped _ _ _) (Going _) one h k = absurd (both_ways at first n k.0 h.2)
before_ends at line first n (Stopped _ _ _) (Stopped _ _ _) one h k = ap₂ (λ a l. ends.Stopped a l) (h.0 ∙ sym k.0) (h.1 ∙ sym k.1)
before_ends at line first n (Faulted _ _ _) other one h k = absurd h
before_ends at line first n (Going _) (Faulted _ _ _) one h k = absurd k
before_ends at line first n (Stopped _ _ _) (Faulted _ _ _) one h k = absurd k

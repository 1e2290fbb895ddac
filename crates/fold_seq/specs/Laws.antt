-- Laws of what answers stand for: of neighbouring stretches, of what lies right of a stop, and of ends.
-- Source: this project.
use Rattle.std.specs.Prelude.{◌≡◌, ℕ, ◌+◌, ◌≤◌, Option, List}
use Rattle.fold_seq.specs.declared.answers.Reduced.{Reduced}
use Rattle.fold_seq.specs.Answers.{IsStop, Combines, end_of, end_then}
use Rattle.fold_seq.specs.Pieces.{has_stopped, StandOrFollowStop, items_in, CombinesKnown, first_end}

-- answers of two neighbouring stretches, combined, stand for both together
abbrev pub BothStand : {S : Type 0} → (ℕ → ℕ → Reduced S → Type 0) → (S → S → S → Type 0) → Type 0
BothStand {S} stands merges = (first n m : ℕ) (left right whole : Reduced S) → 1 ≤ first →
    stands first n left → stands (first + n) m right → Combines merges left right whole → stands first (n + m) whole

-- The answers of any number of stretches next to each other, combined from left to right, stand for all of them together,
-- where a stretch has no answer only after one that stopped or faulted.
abbrev pub KnownStand : {S : Type 0} → (ℕ → ℕ → Reduced S → Type 0) → (S → S → S → Type 0) → Type 0
KnownStand {S} stands merges = (first n : ℕ) (before whole : Reduced S) (pieces : List (ℕ × Option (Reduced S))) → 1 ≤ first →
    stands first n before → StandOrFollowStop stands (has_stopped before) (first + n) pieces →
    CombinesKnown merges before pieces whole → stands first (n + items_in pieces) whole

-- the first of them from the left that stopped or faulted decides how they end
abbrev pub FirstEndDecides : {S : Type 0} → (S → S → S → Type 0) → Type 0
FirstEndDecides {S} merges = (before whole : Reduced S) (pieces : List (ℕ × Option (Reduced S))) →
    CombinesKnown merges before pieces whole → end_of whole ≡ end_then (end_of before) (first_end pieces)

-- what stopped or faulted stands for each longer stretch from the same place
abbrev pub StopStandsForLonger : {S : Type 0} → (ℕ → ℕ → Reduced S → Type 0) → Type 0
StopStandsForLonger {S} stands = (first n more : ℕ) (answer : Reduced S) →
    1 ≤ first → n ≤ more → IsStop answer → stands first n answer → stands first more answer

-- What an answer stands for: the laws of a relation between a stretch of items and what it answers.
-- Source: this project.
use Rattle.std.specs.Prelude.{ℕ, ◌+◌, ◌≤◌, ◌⊎◌}
use Rattle.fold_seq.specs.declared.answers.Reduced.{Reduced}
use Rattle.fold_seq.specs.declared.answers.Reduced.TheVariants.{Going, Stopped}
use Rattle.fold_seq.specs.Answers.{IsStop, StopsWithin, SameEnd, MergesInto}

-- a unit stands for no items, at each place
abbrev pub UnitStands : {S : Type 0} → (ℕ → ℕ → Reduced S → Type 0) → (S → Type 0) → Type 0
UnitStands {S} stands is_unit = (state : S) (first : ℕ) → 1 ≤ first → is_unit state → stands first 0 (Going state)

-- a left that ran to its end, merged into the right one, stands for both stretches together
abbrev pub MergeStands : {S : Type 0} → (ℕ → ℕ → Reduced S → Type 0) → (S → S → S → Type 0) → Type 0
MergeStands {S} stands merges = (first n m : ℕ) (left : S) (right whole : Reduced S) → 1 ≤ first →
    stands first n (Going left) → stands (first + n) m right → MergesInto merges left right whole → stands first (n + m) whole

-- what stopped or faulted stands for each longer stretch from the same place
abbrev pub StopStands : {S : Type 0} → (ℕ → ℕ → Reduced S → Type 0) → Type 0
StopStands {S} stands = (first n m : ℕ) (answer : Reduced S) → 1 ≤ first → IsStop answer → stands first n answer →
    stands first (n + m) answer

-- a stretch stops and faults at one of its own items
abbrev pub StopLies : {S : Type 0} → (ℕ → ℕ → Reduced S → Type 0) → Type 0
StopLies {S} stands = (first n : ℕ) (answer : Reduced S) → 1 ≤ first → stands first n answer → StopsWithin first n answer

-- all answers of one stretch have the same end
abbrev pub EndsAlike : {S : Type 0} → (ℕ → ℕ → Reduced S → Type 0) → Type 0
EndsAlike {S} stands = (first n : ℕ) (one other : Reduced S) → 1 ≤ first → stands first n one → stands first n other →
    SameEnd one other

-- the states may be merged: the left ran to its end over some stretch, and the right ran to its end or stopped right after it
abbrev pub MayMergeParts : {S : Type 0} → (ℕ → ℕ → Reduced S → Type 0) → S → S → Type 0
MayMergeParts stands left right = (first : ℕ) × (n : ℕ) × (m : ℕ) × (1 ≤ first) × stands first n (Going left) ×
    (stands (first + n) m (Going right) ⊎ ((at : ℕ) × (line : ℕ) × stands (first + n) m (Stopped at line right)))

-- the answers may be combined: they stand for neighbouring stretches
abbrev pub MayCombine : {S : Type 0} → (ℕ → ℕ → Reduced S → Type 0) → Reduced S → Reduced S → Type 0
MayCombine stands left right = (first : ℕ) × (n : ℕ) × (m : ℕ) × (1 ≤ first) × stands first n left × stands (first + n) m right

-- wherever the two answers stand for neighbouring stretches, the answer stands for both together
abbrev pub CombinationStands : {S : Type 0} → (ℕ → ℕ → Reduced S → Type 0) → Reduced S → Reduced S → Reduced S → Type 0
CombinationStands stands left right whole = (first n m : ℕ) → 1 ≤ first → stands first n left → stands (first + n) m right →
    stands first (n + m) whole

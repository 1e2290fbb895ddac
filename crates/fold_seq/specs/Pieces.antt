-- Stretches next to each other, of which some have an answer: one without an answer comes only after one that stopped.
-- Source: this project.
use Rattle.std.specs.Prelude.{◌≡◌, ℕ, ◌+◌, Bool, true, false, ◌||◌, Option, Some, None, List, [], ◌∷◌, ⊤}
use Rattle.fold_seq.specs.declared.answers.Reduced.{Reduced}
use Rattle.fold_seq.specs.declared.answers.Reduced.TheVariants.{Going, Stopped, Faulted}
use Rattle.fold_seq.specs.declared.answers.End.{End}
use Rattle.fold_seq.specs.declared.answers.End.TheVariants as ends
use Rattle.fold_seq.specs.Answers.{end_of, end_then, Combines}

module _ {S : Type 0} where
  -- whether an answer stopped or faulted
  abbrev pub has_stopped : Reduced S → Bool
  has_stopped (Going _) = false
  has_stopped (Stopped _ _ _) = true
  has_stopped (Faulted _ _ _) = true

  -- Of stretches next to each other from a place on, each with how many items it has, each answer stands for its stretch, and
  -- a stretch has none only where one before it stopped or faulted.
  abbrev pub StandOrFollowStop : (ℕ → ℕ → Reduced S → Type 0) → Bool → ℕ → List (ℕ × Option (Reduced S)) → Type 0
  StandOrFollowStop stands stopped first [] = ⊤
  StandOrFollowStop stands stopped first ((n, Some answer) ∷ pieces) =
      stands first n answer × StandOrFollowStop stands (stopped || has_stopped answer) (first + n) pieces
  StandOrFollowStop stands stopped first ((n, None) ∷ pieces) =
      (stopped ≡ true) × StandOrFollowStop stands stopped (first + n) pieces

  -- how many items the stretches have together
  abbrev pub items_in : List (ℕ × Option (Reduced S)) → ℕ
  items_in [] = 0
  items_in (piece ∷ pieces) = piece.0 + items_in pieces

  -- the answers that there are, combined from left to right with what comes before them, give the whole answer
  abbrev pub CombinesKnown : (S → S → S → Type 0) → Reduced S → List (ℕ × Option (Reduced S)) → Reduced S → Type 0
  CombinesKnown merges before [] whole = whole ≡ before
  CombinesKnown merges before ((n, Some answer) ∷ pieces) whole =
      (next : Reduced S) × Combines merges before answer next × CombinesKnown merges next pieces whole
  CombinesKnown merges before ((n, None) ∷ pieces) whole = CombinesKnown merges before pieces whole

  -- the end of the first stretch from the left that stopped or faulted; that all ran to their ends, if none did
  abbrev pub first_end : List (ℕ × Option (Reduced S)) → End
  first_end [] = ends.Going
  first_end ((n, Some answer) ∷ pieces) = end_then (end_of answer) (first_end pieces)
  first_end ((n, None) ∷ pieces) = first_end pieces

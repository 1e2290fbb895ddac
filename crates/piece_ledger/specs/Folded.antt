-- The logs of a fold over all items of a job, each clause once for all folds: whole, standing, right of stops, ordered, few, and
-- with a lawful tally. Source: this project.
use Rattle.std.specs.Prelude.{ℕ, ◌≤◌, Option, List, length}
use Rattle.std.specs.List.{All}
use Rattle.splittable.specs.Places.{item_count}
use Rattle.splittable.specs.Nodes.{leaves_of, least_part_of}
use Rattle.fold_seq.specs.declared.answers.Reduced.{Reduced}
use Rattle.fold_seq.specs.Answers.{stop_place_of}
use Rattle.piece_ledger.specs.declared.outcomes.Outcome.{Outcome}
use Rattle.piece_ledger.specs.declared.tallies.Tally.{Tally}
use Rattle.piece_ledger.specs.Logs.{outcomes_of, IsWhole, IsRightOfStop, OutcomesStand, IsOrdered, IsLeftmostStop}
use Rattle.piece_ledger.specs.Tallies.{tally_of}
use Rattle.piece_ledger.specs.Reports.{IsLawfulReport}

-- the least part size of a fold over a shape of these lengths
abbrev pub least_for : ℕ → List ℕ → ℕ
least_for base lens = least_part_of base (item_count lens)

-- the tally is a lawful report over the leaves of a shape, where the answer stopped at a place, or ran to its end
abbrev pub IsReported : List ℕ → ℕ → ℕ → Option ℕ → Tally → Type 0
IsReported lens least workers place tally =
    IsLawfulReport (leaves_of lens least) (item_count lens) workers place tally.ran tally.items_skipped

module _ {S : Type 0} where
  -- the tally of these outcomes is lawful for the leftmost place at which one stopped or faulted, if there is one
  abbrev pub HasLawfulTally : List ℕ → ℕ → ℕ → List (Outcome S) → Type 0
  HasLawfulTally lens least workers outcomes =
      (place : Option ℕ) → IsLeftmostStop outcomes place → IsReported lens least workers place (tally_of outcomes)

  -- each item lies in exactly one outcome of all logs, each outcome's part is a node, and each part that was run is a leaf
  abbrev pub AreWhole : ℕ → List ℕ → List (List (Outcome S)) → Type 0
  AreWhole base lens logs = IsWhole lens (least_for base lens) (outcomes_of logs)

  -- the answer of each part that was run stands for it
  abbrev pub AnswersStand : (ℕ → ℕ → Reduced S → Type 0) → List (List (Outcome S)) → Type 0
  AnswersStand stands logs = OutcomesStand stands (outcomes_of logs)

  -- each part that was skipped lies right of the stop of an outcome in these logs, whose place is the number that was seen
  abbrev pub AreRightOfStops : List (List (Outcome S)) → Type 0
  AreRightOfStops logs = IsRightOfStop (outcomes_of logs)

  -- in each log no part was run after one of that log that stopped or faulted left of it
  abbrev pub AreOrdered : List (List (Outcome S)) → Type 0
  AreOrdered logs = All IsOrdered logs

  -- there are at most so many logs
  abbrev pub AreFew : ℕ → List (List (Outcome S)) → Type 0
  AreFew most logs = length logs ≤ most

  -- the tally of all logs is lawful, whatever the leftmost stop is
  abbrev pub HaveLawfulTally : ℕ → List ℕ → ℕ → List (List (Outcome S)) → Type 0
  HaveLawfulTally base lens workers logs = HasLawfulTally lens (least_for base lens) workers (outcomes_of logs)

  -- the tally of a fold by so many workers is lawful for its answer
  abbrev pub IsLawfulTally : ℕ → List ℕ → ℕ → Reduced S × Tally → Type 0
  IsLawfulTally base lens workers r = IsReported lens (least_for base lens) workers (stop_place_of r.0) r.1

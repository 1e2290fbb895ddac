-- A log that one seat keeps, and the logs of several seats: what their outcomes say, by what the seats have reported and seen.
-- Source: this project.
use Rattle.std.specs.Prelude.{◌≡◌, ℕ, ◌<◌, List, ◌++◌}
use Rattle.std.specs.List.{All, Contains}
use Rattle.splittable.specs.Nodes.{IsNode, IsLeaf}
use Rattle.fold_seq.specs.declared.answers.Reduced.{Reduced}
use Rattle.piece_ledger.specs.declared.outcomes.Outcome.{Outcome}
use Rattle.piece_ledger.specs.Outcomes.{KindRunsOnly, KindSkipsAt}
use Rattle.piece_ledger.specs.Logs.{outcomes_of, stops_of, OutcomesStand, IsOrderedAfter, IsOrdered}

module _ {S : Type 0} where
  -- if the part was skipped, a number left of it was seen, which is among these
  abbrev pub IsSkippedBy : List ℕ → Outcome S → Type 0
  IsSkippedBy seen o = KindSkipsAt (λ number. (number < o.part.first) × Contains seen number) o.kind

  -- What a seat logs that had reported some stops before: these and the stops of the log are what it has reported now. Each part
  -- is a node, and each that was run is a leaf, whose answer stands for it. Each skip saw a number left of its part. No part was
  -- run after a stop left of it, of those before or of the log's.
  pub record IsKept (stands : ℕ → ℕ → Reduced S → Type 0) (lens : List ℕ) (least : ℕ) (before reported seen : List ℕ)
      (log : List (Outcome S)) : Type 0 where
    pub stops : before ++ stops_of log ≡ reported
    pub nodes : All (λ o. IsNode lens least o.part) log
    pub leaves : All (λ o. KindRunsOnly (IsLeaf lens least) o.part o.kind) log
    pub standing : OutcomesStand stands log
    pub skipping : All (IsSkippedBy seen) log
    pub ordered : IsOrderedAfter before log

  -- The same of the logs of several seats, by what these have reported and seen together: the stops of all logs, one after
  -- another, are what the seats have reported, and in each log no part was run after one of that log that stopped left of it.
  pub record AreKept (stands : ℕ → ℕ → Reduced S → Type 0) (lens : List ℕ) (least : ℕ) (reported seen : List ℕ)
      (logs : List (List (Outcome S))) : Type 0 where
    pub stops : stops_of (outcomes_of logs) ≡ reported
    pub nodes : All (λ o. IsNode lens least o.part) (outcomes_of logs)
    pub leaves : All (λ o. KindRunsOnly (IsLeaf lens least) o.part o.kind) (outcomes_of logs)
    pub standing : OutcomesStand stands (outcomes_of logs)
    pub skipping : All (IsSkippedBy seen) (outcomes_of logs)
    pub ordered : All IsOrdered logs

-- Laws of outcomes and logs: what beginning parts keeps, and what follows where logs are whole and right of a stop.
-- Source: this project.
use Rattle.std.specs.Prelude.{◌≡◌, ℕ, ◌+◌, ◌≤◌, ◌++◌, List, [], ◌∷◌, map, IsPermutation}
use Rattle.std.specs.List.{All}
use Rattle.number_ranges.specs.Ranges.{most_items}
use Rattle.splittable.specs.Places.{item_count}
use Rattle.splittable.specs.Parts.{Stretch, AreNeighbours}
use Rattle.splittable.specs.Nodes.{IsNode}
use Rattle.fold_seq.specs.declared.answers.Reduced.{Reduced}
use Rattle.stop_word.specs.Numbers.{no_stop, AreAmong}
use Rattle.stop_word.specs.Seats.{SeatState}
use Rattle.piece_ledger.specs.declared.outcomes.Outcome.{Outcome}
use Rattle.piece_ledger.specs.declared.beginning.Begun.{Begun}
use Rattle.piece_ledger.specs.Beginning.{IsBegun}
use Rattle.piece_ledger.specs.Kept.{IsSkippedBy, IsKept, AreKept}
use Rattle.piece_ledger.specs.Logs.{outcomes_of, stops_of, HoldEachOnce, IsWhole, IsRightOfStop, OutcomesStand}
use Rattle.piece_ledger.specs.Logs.{IsCollectable, IsOrdered, RunsNoneRightOfStop}
use Rattle.piece_ledger.specs.Folded.{HasLawfulTally}

-- Outcomes that are whole and right of a stop have a lawful tally. With one worker it is exact, where no part was run that lies
-- right of a stop.
abbrev pub WholeHasLawfulTally : Type 0 → Type 0
WholeHasLawfulTally S =
    (lens : List ℕ) (least workers : ℕ) (outcomes : List (Outcome S)) → 1 ≤ least → IsWhole lens least outcomes →
    IsRightOfStop outcomes → (workers ≡ 1 → RunsNoneRightOfStop outcomes) → HasLawfulTally lens least workers outcomes

-- where the parts of outcomes are, in some order, all places from left to right, each item lies in exactly one of them
abbrev pub NeighboursHoldEachOnce : Type 0 → Type 0
NeighboursHoldEachOnce S =
    (count : ℕ) (outcomes : List (Outcome S)) (parts : List Stretch) → IsPermutation (map (λ o. o.part) outcomes) parts →
    AreNeighbours 1 parts (count + 1) → HoldEachOnce count outcomes

-- where each number that was seen was reported, and what was reported are the stops, each skip lies right of a stop
abbrev pub SeenAreStops : Type 0 → Type 0
SeenAreStops S =
    (outcomes : List (Outcome S)) (reported seen : List ℕ) → stops_of outcomes ≡ reported → AreAmong reported seen →
    All (λ o. o.part.first ≤ no_stop) outcomes → All (IsSkippedBy seen) outcomes → IsRightOfStop outcomes

module _ {S : Type 0} (stands : ℕ → ℕ → Reduced S → Type 0) (lens : List ℕ) where
  -- the empty log is kept, by a seat that has reported just the stops before
  abbrev pub EmptyIsKept : Type 0
  EmptyIsKept = (least : ℕ) (before seen : List ℕ) → IsKept stands lens least before before seen []

  -- beginning a node keeps the log
  abbrev pub BeginningKeeps : Type 0
  BeginningKeeps =
      (least : ℕ) (before : List ℕ) (part : Stretch) (old new : SeatState) (log log' : List (Outcome S)) (answer : Begun) →
      IsNode lens least part → IsKept stands lens least before old.reported old.seen log →
      IsBegun stands least part old new log log' answer → IsKept stands lens least before new.reported new.seen log'

  -- the log of a seat that had reported nothing is kept as one of several
  abbrev pub OneIsKept : Type 0
  OneIsKept =
      (least : ℕ) (reported seen : List ℕ) (log : List (Outcome S)) → IsKept stands lens least [] reported seen log →
      AreKept stands lens least reported seen (log ∷ [])

  -- the logs of two groups of seats are kept together, one group's lists after the other's
  abbrev pub BothAreKept : Type 0
  BothAreKept =
      (least : ℕ) (reported reported' seen seen' : List ℕ) (logs logs' : List (List (Outcome S))) →
      AreKept stands lens least reported seen logs → AreKept stands lens least reported' seen' logs' →
      AreKept stands lens least (reported ++ reported') (seen ++ seen') (logs ++ logs')

  -- one log more is kept with them, of the seat to which all are joined
  abbrev pub NextIsKept : Type 0
  NextIsKept =
      (least : ℕ) (reported reported' seen more : List ℕ) (logs : List (List (Outcome S))) (log : List (Outcome S)) →
      AreKept stands lens least reported seen logs → IsKept stands lens least reported reported' (seen ++ more) log →
      AreKept stands lens least reported' (seen ++ more) (logs ++ log ∷ [])

  -- where all logs are ordered as one, so they are with such a log after them
  abbrev pub NextIsOrdered : Type 0
  NextIsOrdered =
      (least : ℕ) (reported reported' seen seen' : List ℕ) (logs : List (List (Outcome S))) (log : List (Outcome S)) →
      AreKept stands lens least reported seen logs → IsKept stands lens least reported reported' seen' log →
      IsOrdered (outcomes_of logs) → IsOrdered (outcomes_of (logs ++ log ∷ []))

  -- kept logs, whose parts are in some order all places from left to right, are whole
  abbrev pub KeptAreWhole : Type 0
  KeptAreWhole =
      (least : ℕ) (reported seen : List ℕ) (logs : List (List (Outcome S))) (parts : List Stretch) →
      AreKept stands lens least reported seen logs → IsPermutation (map (λ o. o.part) (outcomes_of logs)) parts →
      AreNeighbours 1 parts (item_count lens + 1) → IsWhole lens least (outcomes_of logs)

  -- and right of a stop, where each number that the seats have seen was reported, as the seat of the whole weight knows
  abbrev pub KeptAreRight : Type 0
  KeptAreRight =
      (least : ℕ) (reported seen : List ℕ) (logs : List (List (Outcome S))) → item_count lens ≤ most_items →
      AreKept stands lens least reported seen logs → AreAmong reported seen → IsRightOfStop (outcomes_of logs)

  -- a log from left to right runs none right of a stop, where none was run after a stop left of it
  abbrev pub OrderedRunsNoneRight : Type 0
  OrderedRunsNoneRight =
      (from to : ℕ) (log : List (Outcome S)) → 1 ≤ from → OutcomesStand stands log → IsOrdered log →
      AreNeighbours from (map (λ o. o.part) log) to → RunsNoneRightOfStop log

  -- whole outcomes, in which each answer stands for its part and each skip lies right of a stop, can be collected
  abbrev pub WholeCanBeCollected : Type 0
  WholeCanBeCollected =
      (least : ℕ) (outcomes : List (Outcome S)) → IsWhole lens least outcomes → OutcomesStand stands outcomes →
      IsRightOfStop outcomes → IsCollectable stands (item_count lens) outcomes

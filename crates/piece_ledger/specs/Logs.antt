-- What the outcomes of all logs say together: that they are whole, and that each skip lies right of a stop.
-- Source: this project.
use Rattle.std.specs.Prelude.{◌≡◌, ℕ, ◌+◌, ◌<◌, ◌≤◌, Bool, ◌&&◌, nat_le, nat_lt, Option, Some, None, List, [], ◌∷◌, ◌++◌, ⊤}
use Rattle.std.specs.List.{All, Contains, flat_map, count_by}
use Rattle.splittable.specs.Places.{item_count}
use Rattle.splittable.specs.Parts.{Stretch}
use Rattle.splittable.specs.Nodes.{IsNode, IsLeaf}
use Rattle.fold_seq.specs.declared.answers.Reduced.{Reduced}
use Rattle.piece_ledger.specs.declared.outcomes.Outcome.{Outcome}
use Rattle.piece_ledger.specs.Outcomes.{KindStopsAt, KindStands, KindRunsOnly, KindSkipsAt, stops_of_kind}

-- whether a part holds a place
abbrev pub holds : Stretch → ℕ → Bool
holds part place = nat_le part.first place && nat_lt place (part.first + part.len)

-- a part has items, all of them among the first so many
pub record LiesAmong (count : ℕ) (part : Stretch) : Type 0 where
  pub from_one : 1 ≤ part.first
  pub some : 1 ≤ part.len
  pub within : part.first + part.len ≤ count + 1

module _ {S : Type 0} where
  -- the outcomes of all logs, one log after another
  abbrev pub outcomes_of : List (List (Outcome S)) → List (Outcome S)
  outcomes_of logs = flat_map (λ log. log) logs

  -- the places at which parts stopped or faulted, in the order of their outcomes
  abbrev pub stops_of : List (Outcome S) → List ℕ
  stops_of outcomes = flat_map (λ o. stops_of_kind o.kind) outcomes

  -- how many outcomes have a part that holds the place
  abbrev pub holders : List (Outcome S) → ℕ → ℕ
  holders outcomes place = count_by (λ o. holds o.part place) outcomes

  -- each of so many items lies in exactly one outcome
  abbrev pub HoldEachOnce : ℕ → List (Outcome S) → Type 0
  HoldEachOnce count outcomes = (place : ℕ) → 1 ≤ place → place ≤ count → holders outcomes place ≡ 1

  -- The logs are whole: each item lies in exactly one outcome, each outcome's part is a node, and each part that was run is
  -- a leaf.
  pub record IsWhole (lens : List ℕ) (least : ℕ) (outcomes : List (Outcome S)) : Type 0 where
    pub once : HoldEachOnce (item_count lens) outcomes
    pub nodes : All (λ o. IsNode lens least o.part) outcomes
    pub leaves : All (λ o. KindRunsOnly (IsLeaf lens least) o.part o.kind) outcomes

  -- an outcome that ran stopped or faulted at this place
  abbrev pub HasStop : List (Outcome S) → ℕ → Type 0
  HasStop outcomes place = (o : Outcome S) × Contains outcomes o × KindStopsAt o.kind place

  -- the number lies left of the part, and an outcome that ran stopped or faulted there
  abbrev pub IsLeftStop : List (Outcome S) → Stretch → ℕ → Type 0
  IsLeftStop outcomes part seen = (seen < part.first) × HasStop outcomes seen

  -- each part that was skipped lies right of a stop of an outcome that ran: the number that was seen
  abbrev pub IsRightOfStop : List (Outcome S) → Type 0
  IsRightOfStop outcomes = All (λ o. KindSkipsAt (IsLeftStop outcomes o.part) o.kind) outcomes

  -- each answer stands for its part
  abbrev pub OutcomesStand : (ℕ → ℕ → Reduced S → Type 0) → List (Outcome S) → Type 0
  OutcomesStand stands outcomes = All (λ o. KindStands stands o.part o.kind) outcomes

  -- Outcomes that can be collected: each part has items of the job, each item lies in exactly one outcome, each answer stands
  -- for its part, and each part that was skipped lies right of a stop.
  pub record IsCollectable (stands : ℕ → ℕ → Reduced S → Type 0) (count : ℕ) (outcomes : List (Outcome S)) : Type 0 where
    pub within : All (λ o. LiesAmong count o.part) outcomes
    pub once : HoldEachOnce count outcomes
    pub standing : OutcomesStand stands outcomes
    pub right : IsRightOfStop outcomes

  -- the place is the leftmost at which an outcome stopped or faulted, and there is none where no outcome did
  abbrev pub IsLeftmostStop : List (Outcome S) → Option ℕ → Type 0
  IsLeftmostStop outcomes None = All (λ o. (at : ℕ) → KindStopsAt o.kind at → ⊥) outcomes
  IsLeftmostStop outcomes (Some place) =
      HasStop outcomes place × All (λ o. (at : ℕ) → KindStopsAt o.kind at → place ≤ at) outcomes

  -- no part was run after one of this log that stopped left of it, nor after these stops
  abbrev pub IsOrderedAfter : List ℕ → List (Outcome S) → Type 0
  IsOrderedAfter stops [] = ⊤
  IsOrderedAfter stops (o ∷ log) =
      KindRunsOnly (λ part. All (λ stop. part.first ≤ stop) stops) o.part o.kind
      × IsOrderedAfter (stops ++ stops_of_kind o.kind) log

  abbrev pub IsOrdered : List (Outcome S) → Type 0
  IsOrdered log = IsOrderedAfter [] log

  -- no part was run that lies right of a stop of any outcome
  abbrev pub RunsNoneRightOfStop : List (Outcome S) → Type 0
  RunsNoneRightOfStop outcomes =
      (place : ℕ) → HasStop outcomes place → All (λ o. KindRunsOnly (λ part. part.first ≤ place) o.part o.kind) outcomes

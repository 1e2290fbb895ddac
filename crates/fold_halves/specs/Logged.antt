-- What seats have logged that begin nodes from left to right.
-- Source: this project.
use Rattle.std.specs.Prelude.{◌≡◌, ℕ, ◌+◌, ◌≤◌, List, [], map, length, Option, Some, None}
use Rattle.atomic_table.specs.Seated.{TableId}
use Rattle.splittable.specs.Parts.{Stretch, AreNeighbours, AreHalves}
use Rattle.splittable.specs.Nodes.{IsNode}
use Rattle.fold_seq.specs.declared.answers.Reduced.{Reduced}
use Rattle.stop_word.specs.Seats.{SeatState}
use Rattle.piece_ledger.specs.declared.outcomes.Outcome.{Outcome}
use Rattle.piece_ledger.specs.Logs.{outcomes_of}
use Rattle.piece_ledger.specs.Kept.{IsKept, AreKept}

module _ {S : Type 0} where
  -- the log of a seat that had reported nothing is kept, and its parts lie next to each other from one place up to another
  pub record IsLogged (stands : ℕ → ℕ → Reduced S → Type 0) (lens : List ℕ) (least from to : ℕ) (seat : SeatState)
      (log : List (Outcome S)) : Type 0 where
    pub kept : IsKept stands lens least [] seat.reported seat.seen log
    pub near : AreNeighbours from (map (λ o. o.part) log) to

  -- the logs of seats that are joined are kept, and their parts are this part, from left to right
  pub record AreLogged (stands : ℕ → ℕ → Reduced S → Type 0) (lens : List ℕ) (least : ℕ) (part : Stretch) (seat : SeatState)
      (logs : List (List (Outcome S))) : Type 0 where
    pub kept : AreKept stands lens least seat.reported seat.seen logs
    pub near : AreNeighbours part.first (map (λ o. o.part) (outcomes_of logs)) (part.first + part.len)

  -- what is logged up to a place is, by what a seat and its log have become, logged up to another
  abbrev pub LogsOn : (ℕ → ℕ → Reduced S → Type 0) → List ℕ → ℕ → ℕ → ℕ → SeatState → SeatState → List (Outcome S) →
      List (Outcome S) → Type 0
  LogsOn stands lens least at to old new log log' =
      (from : ℕ) → IsLogged stands lens least from at old log → IsLogged stands lens least from to new log'

  -- a node's parts are logged, after what was logged up to its first place
  abbrev pub LogsNode : (ℕ → ℕ → Reduced S → Type 0) → List ℕ → ℕ → Stretch → SeatState → SeatState → List (Outcome S) →
      List (Outcome S) → Type 0
  LogsNode stands lens least part old new log log' =
      LogsOn stands lens least part.first (part.first + part.len) old new log log'

  -- two parts are the halves of a node, and nodes, and nothing was logged or reported
  pub record IsHalved (stands : ℕ → ℕ → Reduced S → Type 0) (lens : List ℕ) (least : ℕ) (part left right : Stretch)
      (old new : SeatState) (log log' : List (Outcome S)) : Type 0 where
    pub halves : AreHalves part left right
    pub left_node : IsNode lens least left
    pub right_node : IsNode lens least right
    pub reported : new.reported ≡ old.reported
    pub log_is : log' ≡ log
    pub logged : LogsOn stands lens least part.first part.first old new log log'

  -- a node was skipped or run and is logged, or it is longer than the least part size, and these are its halves
  abbrev pub IsLoggedOr : (ℕ → ℕ → Reduced S → Type 0) → List ℕ → ℕ → Stretch → SeatState → SeatState → List (Outcome S) →
      List (Outcome S) → Option (Stretch × Stretch) → Type 0
  IsLoggedOr stands lens least part old new log log' None = LogsNode stands lens least part old new log log'
  IsLoggedOr stands lens least part old new log log' (Some halves) =
      IsHalved stands lens least part halves.0 halves.1 old new log log'

  -- What many seats leave that begin a node: a seat of the same word and weight, and at most so many logs, which are the node's.
  abbrev pub HasLogs : (ℕ → ℕ → Reduced S → Type 0) → List ℕ → ℕ → Stretch → ℕ → SeatState → SeatState →
      List (List (Outcome S)) → Type 0
  HasLogs stands lens least part seats old new logs =
      (new.word ≡ old.word) × (new.weight ≡ old.weight) × AreLogged stands lens least part new logs × (length logs ≤ seats)

-- so many seats may begin a part, which share the weight of this one: the part is a node, and nothing is reported yet
abbrev pub MayBegin : List ℕ → ℕ → Stretch → TableId → ℕ → SeatState → Type 0
MayBegin lens least part word seats seat =
    (seat.word ≡ word) × (1 ≤ least) × IsNode lens least part × (1 ≤ seats) × (seats ≤ seat.weight) × (seat.reported ≡ [])

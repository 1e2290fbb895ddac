-- The seats of a new crew: what each has before its first turn.
-- Source: this project.
use Rattle.std.specs.Prelude.{◌≡◌, ℕ, suc, ◌+◌, ◌<◌, ◌≤◌, List, [], ◌∷◌, ◌++◌, length, map, take, drop, option_to_list, sum_by, ⊤}
use Rattle.std.specs.List.{AllByRecursion}
use Rattle.std.specs.Global.{Vec}
use Rattle.atomic_table.specs.Seated.{TableId}
use Rattle.splittable.specs.Places.{item_count}
use Rattle.splittable.specs.Parts.{Stretch, AreNeighbours}
use Rattle.splittable.specs.Nodes.{IsNode, least_part_of}
use Rattle.stop_word.specs.Numbers.{whole_weight}
use Rattle.stop_word.specs.Seats.{SeatState}
use Rattle.part_deque.specs.Ends.{DequeId, OwnerEnd, ThiefEnd, owner_end, half_weight}
use Rattle.fold_steal.specs.declared.seats.Held.{Held}
use Rattle.fold_steal.specs.Crews.{CrewNow, AreColumns}
use Rattle.fold_steal.specs.Cuts.{IsFreshStop, IsFreshEnd}

-- the owner's end of a new deque of this crew, on which these parts lie
abbrev pub IsStarted : List ℕ → ℕ → List Stretch → OwnerEnd → Type 0
IsStarted lens least dealt o = o ≡ owner_end o.deque lens least half_weight dealt [] dealt 0 0

-- owners' ends, to which the parts were dealt in order, one each as far as they go
abbrev pub AreStarted : List ℕ → ℕ → List Stretch → List OwnerEnd → Type 0
AreStarted lens least parts [] = ⊤
AreStarted lens least parts (o ∷ os) = IsStarted lens least (take 1 parts) o × AreStarted lens least (drop 1 parts) os

-- an end of this crew that took nothing and missed nothing
abbrev pub IsNewEnd : List ℕ → ℕ → ThiefEnd → Type 0
IsNewEnd lens least t = IsFreshEnd t.deque lens least t

-- a row of so many such ends
pub record IsNewRow (lens : List ℕ) (least many : ℕ) (row : List ThiefEnd) : Type 0 where
  pub many_are : length row ≡ many
  pub ends : AllByRecursion (IsNewEnd lens least) row

-- so many stop seats of this word that have reported and seen nothing, and have together the whole weight
pub record AreStops (word : TableId) (many : ℕ) (stops : List SeatState) : Type 0 where
  pub many_are : length stops ≡ many
  pub fresh : AllByRecursion (IsFreshStop word) stops
  pub weights : sum_by (λ (s : SeatState). s.weight) stops ≡ whole_weight

-- a crew of this shape, least part size and word
abbrev pub crew_with : List ℕ → ℕ → TableId → CrewNow
crew_with lens least word = record { lens = lens; least = least; word = word }

-- which deque an owner's end is of, and its weight
abbrev pub owner_key : OwnerEnd → DequeId × ℕ
owner_key o = (o.deque, o.weight)

-- So many deques, to whose owners the parts were dealt in order, and rows of thieves' ends on them, one row a worker.
pub record AreDeques (lens : List ℕ) (least : ℕ) (parts : List Stretch) (many workers : ℕ) (owners : List OwnerEnd)
    (rows : List (List ThiefEnd)) : Type 0 where
  pub started : AreStarted lens least parts owners
  pub owners_are : length owners ≡ many
  pub columns : AreColumns (map owner_key owners) rows
  pub rows_are : length rows ≡ workers
  pub new_rows : AllByRecursion (IsNewRow lens least many) rows

module _ {S : Type 0} where
  -- A seat before its first turn, with this number and these parts dealt to it, at most one. They lie on its deque, its stack and
  -- log are empty, its stop seat has reported and seen nothing, and its ends took nothing and missed nothing.
  pub record IsNewSeat (crew : CrewNow) (number : ℕ) (dealt : List Stretch) (seat : Held S) : Type 0 where
    pub number_is : seat.number ≡ number
    pub dealt_is : option_to_list seat.dealt ≡ dealt
    pub stack : seat.stack.items ≡ []
    pub log : seat.log ≡ []
    pub stop : IsFreshStop crew.word seat.stop
    pub owner : IsStarted crew.lens crew.least dealt seat.owner
    pub thieves : AllByRecursion (IsNewEnd crew.lens crew.least) seat.thieves.items

  -- such seats, numbered from this one on, to which the parts were dealt in order, one each as far as they go
  abbrev pub AreNewSeats : CrewNow → ℕ → List Stretch → List (Held S) → Type 0
  AreNewSeats crew number parts [] = ⊤
  AreNewSeats crew number parts (seat ∷ seats) =
      IsNewSeat crew number (take 1 parts) seat × AreNewSeats crew (suc number) (drop 1 parts) seats

  -- the seat has this stop seat and these ends
  pub record HasEnds (stop : SeatState) (owner : OwnerEnd) (thieves : List ThiefEnd) (seat : Held S) : Type 0 where
    pub stop_is : seat.stop ≡ stop
    pub owner_is : seat.owner ≡ owner
    pub thieves_are : seat.thieves.items ≡ thieves

  -- seats that have these stop seats and ends, in order
  pub record HaveEnds (stops : List SeatState) (owners : List OwnerEnd) (rows : List (List ThiefEnd)) (seats : List (Held S)) :
      Type 0 where
    pub stops_are : map (λ (s : Held S). s.stop) seats ≡ stops
    pub owners_are : map (λ (s : Held S). s.owner) seats ≡ owners
    pub rows_are : map (λ (s : Held S). s.thieves.items) seats ≡ rows

-- what is needed for a seat of a crew of one: the parts dealt to it are all places
abbrev pub AreAllWhereAlone : List ℕ → ℕ → List Stretch → Type 0
AreAllWhereAlone lens workers dealt = workers ≡ 1 → AreNeighbours 1 dealt (item_count lens + 1)

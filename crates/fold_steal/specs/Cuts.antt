-- Shares of a weight: stop seats that did nothing yet, and thieves' ends that took nothing yet.
-- Source: this project.
use Rattle.std.specs.Prelude.{◌≡◌, ℕ, ◌*◌, ◌^◌, ◌≤◌, List, [], ◌++◌, length, sum_by}
use Rattle.std.specs.List.{AllByRecursion}
use Rattle.atomic_table.specs.Seated.{TableId}
use Rattle.stop_word.specs.Seats.{SeatState}
use Rattle.part_deque.specs.Steps.{right_weight}
use Rattle.part_deque.specs.Ends.{DequeId, ThiefEnd, thief_end}

-- a stop seat of this word that has reported and seen nothing
pub record IsFreshStop (word : TableId) (stop : SeatState) : Type 0 where
  pub word_is : stop.word ≡ word
  pub reported : stop.reported ≡ []
  pub seen : stop.seen ≡ []

-- an end on this deque, of this crew, that took nothing and missed nothing
abbrev pub IsFreshEnd : DequeId → List ℕ → ℕ → ThiefEnd → Type 0
IsFreshEnd deque lens least t = t ≡ thief_end deque lens least t.weight [] 0 0

-- an end of so many rights that it can be cut into so many ends, each cut leaving half of the rights on each side
abbrev pub CanSpread : ℕ → ThiefEnd → Type 0
CanSpread many t = (k : ℕ) × (t.weight ≡ right_weight * 2 ^ k) × (many ≤ 2 ^ k)

-- so many things, each of which is such, were added to others, and weigh together so much
pub record HasAdded {A : Type 0} (P : A → Type 0) (weigh : A → ℕ) (many weight : ℕ) (old new : List A) : Type 0 where
  pub shares : List A
  pub added : new ≡ old ++ shares
  pub many_are : length shares ≡ many
  pub each : AllByRecursion P shares
  pub weights : sum_by weigh shares ≡ weight

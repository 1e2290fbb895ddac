-- What the fields of a seat keep.
-- Source: this project's representation.
use Rattle.std.specs.Prelude.{◌≡◌, []}
use Rattle.loop_batch.specs.declared.seats.ClaimSeat.TheInside.{Inside}
use Rattle.loop_batch.specs.Seats.{SeatState}
use Rattle.loop_batch.specs.Tells.{IsTold}

abbrev pub seat_state : Inside → SeatState
seat_state s = record { claim = s.seat.table_id; weight = s.weight; drawn = s.seat.me.0.drawn }

-- the seat holds no slot, has the weight that its view has, and its view is what the rule says
pub record IsSeat (s : Inside) : Type 0 where
  pub empty : s.seat.me.1 ≡ []
  pub weighs : s.seat.me.0.weight ≡ s.weight
  pub told : IsTold s.seat.me.0

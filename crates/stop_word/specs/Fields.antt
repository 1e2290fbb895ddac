-- What the fields of a seat keep.
-- Source: this project's representation.
use Rattle.std.specs.Prelude.{◌≡◌, ◌<◌, []}
use Rattle.stop_word.specs.declared.seats.StopSeat.TheInside.{Inside}
use Rattle.stop_word.specs.Seats.{SeatState}
use Rattle.stop_word.specs.Tells.{IsTold}

abbrev pub seat_state : Inside → SeatState
seat_state s = record { word = s.seat.table_id; weight = s.weight; reported = s.seat.me.0.reported; seen = s.seat.me.0.seen }

-- the seat holds no slot, has the weight that its view has, which is not 0, and its view is what the rule says
pub record IsSeat (s : Inside) : Type 0 where
  pub empty : s.seat.me.1 ≡ []
  pub weighs : s.seat.me.0.weight ≡ s.weight
  pub some : 0 < s.weight
  pub told : IsTold s.seat.me.0

-- What the fields of a seat keep.
-- Source: this project's representation.
use Rattle.std.specs.Prelude.{◌≡◌, ◌<◌, []}
use Rattle.crossbeam_queue.specs.Passes.{view}
use Rattle.fold_pool.specs.declared.seats.QueueSeat.TheInside.{Inside}
use Rattle.fold_pool.specs.Seats.{SeatState}
use Rattle.fold_pool.specs.Steps.{IsTold}

-- the view of a seat
abbrev pub seat_state : Inside → SeatState
seat_state s = record {
  queue = s.pass.table_id;
  weight = s.weight;
  shape = (view s.pass).shape;
  least = (view s.pass).least;
  put = (view s.pass).put;
  taken = (view s.pass).taken;
}

-- no slot is out with the pass, the seat has the weight of its view, which is not 0, and its view is what the rule says
pub record IsSeat (s : Inside) : Type 0 where
  pub empty : s.pass.me.1 ≡ []
  pub weighs : (view s.pass).weight ≡ s.weight
  pub some : 0 < s.weight
  pub told : IsTold (view s.pass)

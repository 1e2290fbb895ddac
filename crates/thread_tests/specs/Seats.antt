-- What callers of a stop word keep of a seat.
-- Source: this project.
use Rattle.std.specs.Prelude.{◌≡◌}
use Rattle.stop_word.specs.Seats.{SeatState}

-- it is a seat of the same word, with the same weight
pub record SameSeat (old new : SeatState) : Type 0 where
  pub word : new.word ≡ old.word
  pub weight : new.weight ≡ old.weight

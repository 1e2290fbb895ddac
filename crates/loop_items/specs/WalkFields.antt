-- What a walk keeps.
-- Source: this project's representation.
use Rattle.std.specs.Prelude.{◌≡◌, ◌≤◌, ◌+◌, ◌-◌, ℕ, List}
use Rattle.splittable.specs.Fields.{padded}
use Rattle.splittable.specs.Places.{item_count, places_after}

-- Up to the place after the last item, `end`, the next item stands at this place, and at these places on axes of these lengths,
-- which are padded to four.
pub record IsOnWay (lens four places : List ℕ) (place end : ℕ) : Type 0 where
  pub padded_is : four ≡ padded lens
  pub some : 1 ≤ item_count lens
  pub from : 1 ≤ place
  pub to : place ≤ end
  pub within : end ≤ item_count lens + 1
  pub places_are : places ≡ places_after four (place - 1)

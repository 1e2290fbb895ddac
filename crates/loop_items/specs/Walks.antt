-- Walks along the items of a part of a shape.
-- Source: this project.
use Rattle.std.specs.Prelude.{◌≡◌, ℕ, ◌-◌, List, [], ◌∷◌, drop, take, Option, Some, None}
use Rattle.splittable.specs.Parts.{Stretch}
use Rattle.loop_data.specs.declared.value.Value.{Value}

-- so many items from this place on
abbrev pub items_from : List Value → ℕ → ℕ → List Value
items_from items first count = take count (drop (first - 1) items)

-- the items of a part
abbrev pub part_items : List Value → Stretch → List Value
part_items items part = items_from items part.first part.len

-- what is taken is the first of these items, and the others are left; nothing is taken where there is none
abbrev pub IsTaken : Option Value → List Value → List Value → Type 0
IsTaken None items left = (items ≡ []) × (left ≡ [])
IsTaken (Some item) items left = items ≡ item ∷ left

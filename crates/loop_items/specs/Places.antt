-- The values of several lists at places, counted from 1, one place for each list.
-- Source: this project, over the places of shapes in splittable.
use Rattle.std.specs.Prelude.{◌≡◌, ℕ, ◌-◌, ◌+◌, ◌≤◌, nat_lt, if◌then◌else◌, List, [], ◌∷◌, length, Option, Some, None}
use Rattle.std.specs.Prelude.{option_and_then, slice_get}
use Rattle.splittable.specs.Places.{places_on_four}
use Rattle.loop_data.specs.declared.value.Value.{Value}
use Rattle.loop_items.specs.Heads.{Head}

-- each list's value at its place; places for which there is no list don't count
abbrev pub at_places : List (List Value) → List ℕ → Option (List Value)
at_places [] places = Some []
at_places (xs ∷ more) [] = None
at_places (xs ∷ more) (place ∷ places) =
    option_and_then (λ x. option_and_then (λ row. Some (x ∷ row)) (at_places more places)) (slice_get xs (place - 1))

-- the item of a head that stands at these places on its axes
abbrev pub IsItemAt : Head → List ℕ → Value → Type 0
IsItemAt head places item = (place : ℕ) → 1 ≤ place → place ≤ length head.items →
    places ≡ places_on_four head.lens place → slice_get head.items (place - 1) ≡ Some item

-- the places on the axes of the item after the one at these places; after the last item those of the first.
abbrev pub next_places : List ℕ → List ℕ → List ℕ
next_places (len ∷ lens) (place ∷ places) =
    if nat_lt place len then (place + 1) ∷ places else 1 ∷ next_places lens places
next_places _ _ = []

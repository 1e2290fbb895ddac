-- The items of a shape and their places on its axes: a mixed base, the first axis fastest, all counted from 1.
-- Source: Julia's `Iterators.product`, whose first part changes fastest; this project's limits.
use Rattle.std.specs.Prelude.{ℕ, ◌≤◌, ◌<◌, ◌+◌, ◌-◌, ◌*◌, ◌/◌, ◌%◌, if◌then◌else◌, nat_lt, List, [], ◌∷◌, ◌++◌, length, map}
use Rattle.std.specs.Prelude.{take, find, unwrap_or, replicate, slice_index, Option, Some, None, Result, Ok, Err}
use Rattle.std.specs.List.{range_with_len}
use Rattle.number_ranges.specs.Ranges.{most_items}
use Rattle.splittable.specs.declared.shapes.ShapeRefusal.{ShapeRefusal}
use Rattle.splittable.specs.declared.shapes.ShapeRefusal.TheVariants.{NoAxis, TooManyAxes, TooManyItems}

-- how many items a shape has: the product of its lengths
abbrev pub item_count : List ℕ → ℕ
item_count [] = 1
item_count (len ∷ lens) = len * item_count lens

-- the place on each axis of the item with so many items before it
abbrev pub places_after : List ℕ → ℕ → List ℕ
places_after [] before = []
places_after (len ∷ lens) before = (before % len + 1) ∷ places_after lens (before / len)

-- the place on each axis of the item at a place
abbrev pub places_on_axes : List ℕ → ℕ → List ℕ
places_on_axes lens place = places_after lens (place - 1)

-- the same for four axes: an axis that is not there has 1
abbrev pub places_on_four : List ℕ → ℕ → List ℕ
places_on_four lens place = places_on_axes lens place ++ replicate (4 - length lens) 1

-- there is such a place on an axis of this length
abbrev pub IsOnAxis : ℕ → ℕ → Type 0
IsOnAxis len place = (1 ≤ place) × (place ≤ len)

-- there is such a place on each axis
abbrev pub AreOnAxes : List ℕ → List ℕ → Type 0
AreOnAxes lens places = (axis : ℕ) → axis < length lens → IsOnAxis (slice_index lens axis) (slice_index places axis)

-- how many items the first lengths have: none of them, one, two, .., all of them
abbrev pub prefix_counts : List ℕ → List ℕ
prefix_counts lens = map (λ n. item_count (take n lens)) (range_with_len 0 (length lens + 1))

-- where there are too many items, how many the shortest prefix of the lengths has that has too many
abbrev pub first_excess : List ℕ → ℕ
first_excess lens = unwrap_or (find (nat_lt most_items) (prefix_counts lens)) (item_count lens)

-- the first excess, if there are too many items
abbrev pub excess_of : List ℕ → Option ℕ
excess_of lens = if nat_lt most_items (item_count lens) then Some (first_excess lens) else None

-- the lengths of a shape, or why they are refused
abbrev pub checked_shape : List ℕ → Result (List ℕ) ShapeRefusal
checked_shape [] = Err NoAxis
checked_shape lens =
    if nat_lt 4 (length lens) then Err TooManyAxes
    else if nat_lt most_items (item_count lens) then Err (TooManyItems (first_excess lens))
    else Ok lens

-- Laws of ranges: where their items lie, how many there are, and how a list of them is taken apart.
-- Source: this project.
use Rattle.std.specs.Prelude.{◌≡◌, ◌≢◌, ◌≤◌, ◌<◌, ◌↔◌, ◌⊎◌, ℕ, ◌+◌, false, [], ◌∷◌, ◌++◌, length, Some, slice_get, ℤ, pos, ◌+ℤ◌}
use Rattle.std.specs.Prelude.{◌≤ℤ◌, FitsSigned}
use Rattle.std.specs.Int.{w64}
use Rattle.number_ranges.specs.Ranges.{lies_behind, range_count, range_item, items_from, range_items, most_range_items}

-- a number lies between two others, whichever of them is the larger
abbrev pub LiesBetween : ℤ → ℤ → ℤ → Type 0
LiesBetween a b n = ((a ≤ℤ n) × (n ≤ℤ b)) ⊎ ((b ≤ℤ n) × (n ≤ℤ a))

-- each item lies between the first and the last
abbrev pub ItemsLieBetween : Type 0
ItemsLieBetween = (first step last : ℤ) (steps : ℕ) →
    step ≢ pos 0 → steps < range_count first step last → LiesBetween first last (range_item first step steps)

-- so each item fits 64 bits, where the first and the last do
abbrev pub ItemsFit : Type 0
ItemsFit = (first step last : ℤ) (steps : ℕ) → FitsSigned w64 first → FitsSigned w64 last →
    step ≢ pos 0 → steps < range_count first step last → FitsSigned w64 (range_item first step steps)

-- a range of 64-bit numbers has at most 2^64 items
abbrev pub CountsAreBounded : Type 0
CountsAreBounded = (first step last : ℤ) →
    FitsSigned w64 first → FitsSigned w64 last → range_count first step last ≤ most_range_items

-- a range holds the number so many steps on exactly where that number does not lie past the last
abbrev pub HoldsWhatIsNotPast : Type 0
HoldsWhatIsNotPast = (first step last : ℤ) (steps : ℕ) → step ≢ pos 0 →
    (steps < range_count first step last) ↔ (lies_behind (range_item first step steps) step last ≡ false)

-- the items are as many as the count
abbrev pub ItemsAreCounted : Type 0
ItemsAreCounted = (first step last : ℤ) → length (range_items first step last) ≡ range_count first step last

-- so many items are that many
abbrev pub LengthIsCount : Type 0
LengthIsCount = (first step : ℤ) (count : ℕ) → length (items_from first step count) ≡ count

-- the item behind so many others lies that many steps after the first
abbrev pub ItemsByPlace : Type 0
ItemsByPlace = (first step : ℤ) (count steps : ℕ) → steps < count →
    slice_get (items_from first step count) steps ≡ Some (range_item first step steps)

-- there are no items, where there are none
abbrev pub NoItems : Type 0
NoItems = (first step : ℤ) → items_from first step 0 ≡ []

-- else they are the first, and as many as are left from the number one step on
abbrev pub FirstThenRest : Type 0
FirstThenRest = (first step : ℤ) (count : ℕ) →
    items_from first step (count + 1) ≡ first ∷ items_from (first +ℤ step) step count

-- so many items and some more are the former, and then the latter from the number that lies behind those
abbrev pub ItemsOfNeighbours : Type 0
ItemsOfNeighbours = (first step : ℤ) (count more : ℕ) →
    items_from first step (count + more) ≡ items_from first step count ++ items_from (range_item first step count) step more

-- so many steps, and so many more
abbrev pub StepsAdd : Type 0
StepsAdd = (first step : ℤ) (steps more : ℕ) →
    range_item (range_item first step steps) step more ≡ range_item first step (steps + more)

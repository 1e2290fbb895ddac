-- The items of a range first:step:last, the last included where it is reached: how many there are, and each of them; the most
-- that a loop has. Source: the ranges of Julia, `a:b` and `a:s:b`; the limit on a loop's items is this project's.
use Rattle.std.specs.Prelude.{ℕ, ◌+◌, ◌/◌, Bool, if◌then◌else◌, List, map, ℤ, pos, ◌+ℤ◌, ◌-ℤ◌, ◌*ℤ◌, int_lt, unsigned_abs}
use Rattle.std.specs.List.{range_with_len}

-- whether the last lies on the wrong side of the first, so that no step leads to it
abbrev pub lies_behind : ℤ → ℤ → ℤ → Bool
lies_behind first step last = if int_lt step (pos 0) then int_lt first last else int_lt last first

-- how many items a range has: the first, and one for each step that does not pass the last
abbrev pub range_count : ℤ → ℤ → ℤ → ℕ
range_count first step last =
    if lies_behind first step last then 0 else unsigned_abs (last -ℤ first) / unsigned_abs step + 1

-- the most items that a range of 64-bit numbers has: 2^64
abbrev pub most_range_items : ℕ
most_range_items = 18446744073709551616

-- the most items of a loop, and so of a range that is halved, of a column and of a shape; the place of an item is no larger
abbrev pub most_items : ℕ
most_items = 4294967296

-- the number that lies so many steps after the first
abbrev pub range_item : ℤ → ℤ → ℕ → ℤ
range_item first step steps = first +ℤ pos steps *ℤ step

-- so many items: the first, one step on, two steps on, ..
unfoldable pub items_from : ℤ → ℤ → ℕ → List ℤ
items_from first step count = map (range_item first step) (range_with_len 0 count)

-- the items of a range, in order
abbrev pub range_items : ℤ → ℤ → ℤ → List ℤ
range_items first step last = items_from first step (range_count first step last)

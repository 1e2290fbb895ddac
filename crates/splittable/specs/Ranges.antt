-- The items of a range first:step:last, or why they are refused.
-- Source: the ranges of Julia, `a:b` and `a:s:b`; the limit on the items is this project's.
use Rattle.std.specs.Prelude.{if◌then◌else◌, nat_lt, List, Result, Ok, Err, ℤ, pos}
use Rattle.std.specs.Ordering.{int_eq}
use Rattle.number_ranges.specs.Ranges.{most_items, range_count, range_items}
use Rattle.splittable.specs.declared.ranges.RangeRefusal.{RangeRefusal}
use Rattle.splittable.specs.declared.ranges.RangeRefusal.TheVariants.{StepZero, TooLong}

-- the items of a range, or why they are refused
abbrev pub checked_range : ℤ → ℤ → ℤ → Result (List ℤ) RangeRefusal
checked_range first step last =
    if int_eq step (pos 0) then Err StepZero
    else if nat_lt most_items (range_count first step last) then Err (TooLong (range_count first step last))
    else Ok (range_items first step last)

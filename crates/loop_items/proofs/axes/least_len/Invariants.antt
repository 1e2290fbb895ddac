use Rattle.std.proofs.Common.{◌≡◌, ◌≤◌, length, map, drop}
use Rattle.number_ranges.specs.Ranges.{most_items}
use Rattle.loop_meaning.specs.Counts.{least_of}
use Rattle.loop_items.proofs.axes.least_len.Given as goal

-- the least of what is left is the least of all
abbrev pub invariant-loop-part : goal.invariant-loop-part
invariant-loop-part l = record {
  least : least_of l.least (map length (drop l.part-index l.others)) ≡ least_of l.initial.least (map length l.others);
  few : l.least ≤ most_items;
}

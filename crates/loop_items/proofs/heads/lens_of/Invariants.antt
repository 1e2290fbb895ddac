use Rattle.std.proofs.Common.{◌≡◌, ◌≤◌, length, map, take, vec_len}
use Rattle.std.specs.Prelude.{All, vec_capacity}
use Rattle.number_ranges.specs.Ranges.{most_items}
use Rattle.loop_items.proofs.heads.lens_of.Given as goal

-- the lengths so far, and room for the others
abbrev pub invariant-loop-axis : goal.invariant-loop-axis
invariant-loop-axis l = record {
  so_far : l.lens.items ≡ map length (take l.axis-index l.axes);
  few : All (λ len. len ≤ most_items) l.lens.items;
  len : vec_len l.lens ≡ l.axis-index;
  room : vec_capacity l.lens ≡ length l.axes;
}

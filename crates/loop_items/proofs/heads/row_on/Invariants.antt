use Rattle.std.proofs.Common.{◌≡◌, length, drop, vec_len}
use Rattle.std.specs.Prelude.{vec_capacity}
use Rattle.loop_items.specs.Places.{at_places}
use Rattle.loop_items.proofs.Rows.{behind}
use Rattle.loop_items.proofs.heads.row_on.Given as goal

-- the values so far, and what is left, are the row, and there is room for it
abbrev pub invariant-loop-i : goal.invariant-loop-i
invariant-loop-i l = record {
  so_far : behind l.row.items (at_places (drop l.i l.axes) (drop l.i l.places)) ≡ at_places l.axes l.places;
  len : vec_len l.row ≡ l.i;
  room : vec_capacity l.row ≡ length l.axes;
}

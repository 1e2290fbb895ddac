use Rattle.std.proofs.Common.{◌≡◌, ◌-◌, length, drop, vec_len}
use Rattle.std.specs.Prelude.{vec_capacity}
use Rattle.loop_meaning.specs.Laws.{at_place}
use Rattle.loop_items.proofs.Rows.{behind}
use Rattle.loop_items.proofs.axes.row_at.Given as goal

-- the values so far, and what is left, are the row, and there is room for it
abbrev pub invariant-loop-part : goal.invariant-loop-part
invariant-loop-part l = record {
  so_far : behind l.row.items (at_place (drop l.part-index l.parts) (l.k - 1)) ≡ at_place l.parts (l.k - 1);
  len : vec_len l.row ≡ l.part-index;
  room : vec_capacity l.row ≡ length l.parts;
}

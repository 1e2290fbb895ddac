use Rattle.std.proofs.Common.{◌≡◌, length, vec_len}
use Rattle.std.specs.Prelude.{vec_capacity}
use Rattle.std.specs.FinMap.{get}
use Rattle.loop_meaning.specs.Items.{sources}
use Rattle.loop_items.proofs.OpeningLemmas.{IsOpening}
use Rattle.loop_items.proofs.heads.open_axes.Given as goal

-- what is left to open makes the whole, and there is room for it
abbrev pub invariant-loop-axis : goal.invariant-loop-axis
invariant-loop-axis l = record {
  so_far : IsOpening l.line l.axes (sources (get l.names) l.table) l.axis-index l.opened.items;
  len : vec_len l.opened ≡ l.axis-index;
  room : vec_capacity l.opened ≡ length l.axes;
}

use Rattle.std.proofs.Common.{◌≡◌, ◌+◌, ◌<◌, ◌^◌, [], length, true}
use Rattle.std.specs.List.{list_all}
use Rattle.reducer_tower.specs.Rows.{start_fits}
use Rattle.program_rows.specs.Rows.{with_lines}
use Rattle.program_rows.proofs.row.with_lines.Given as goal

-- with the lines that are left it is the row of all; each of them fits, and there is room for all
abbrev pub invariant-loop-line : goal.invariant-loop-line
invariant-loop-line l = record {
  whole : with_lines l.row.towers.items l.line-iterator.rest.items ≡ with_lines [] l.fn.lines.items;
  fit : list_all start_fits l.line-iterator.rest.items ≡ true;
  few : length l.row.towers.items + length l.line-iterator.rest.items < 2 ^ 32;
}

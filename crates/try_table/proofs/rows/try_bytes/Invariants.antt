use Rattle.std.proofs.Common.{◌≡◌, ◌++◌, ◌-◌}
use Rattle.try_table.specs.Tables.{rows_after, table_bytes}
use Rattle.try_table.proofs.rows.try_bytes.Given as goal

abbrev pub invariant-loop-row : goal.invariant-loop-row
invariant-loop-row l = l.text.items ++ rows_after (l.rows - l._row) l.x ≡ table_bytes l.seed l.rows

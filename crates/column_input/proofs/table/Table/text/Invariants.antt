use Rattle.std.proofs.Common.{◌-◌, length}
use Rattle.column_input.proofs.KeptLemmas.{Wanted}
use Rattle.column_input.proofs.table.Table.text.Given as goal

abbrev pub invariant-loop-row : goal.invariant-loop-row
invariant-loop-row l = Wanted l.self-inside.chunks.items l.fn.row l.file l.row

abbrev pub decreases-loop-row : goal.decreases-loop-row
decreases-loop-row l = length l.self-inside.chunks.items - l.file

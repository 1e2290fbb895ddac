use Rattle.std.proofs.Common.{◌≡◌, length}
use Rattle.column_input.proofs.TableLemmas.{Reading}
use Rattle.column_input.proofs.chunk.Chunk.read.Given as goal

abbrev pub invariant-loop-row : goal.invariant-loop-row
invariant-loop-row l =
    (l.chunk.width ≡ l.width) × Reading l.limit.most l.limit.before l.width l.fn.records l.chunk.rows l.records

abbrev pub decreases-loop-row : goal.decreases-loop-row
decreases-loop-row l = length l.records

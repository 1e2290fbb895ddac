use Rattle.std.proofs.Common.{sym}
use Rattle.column_input.proofs.ChunkLemmas.{length-rows_of}
use Rattle.column_input.proofs.chunk.Chunk.rows.Goals as goal

pub returns : goal.returns
returns c = rw (← c.self.view_is) (sym (length-rows_of _ _ _))

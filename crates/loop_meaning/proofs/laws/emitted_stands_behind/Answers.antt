use Rattle.loop_meaning.proofs.BehindLemmas.{blocks_emit_behind, heads_emit_behind}
use Rattle.loop_meaning.proofs.laws.emitted_stands_behind.Goals as goal

pub returns-clause-blocks : goal.returns-clause-blocks
returns-clause-blocks c = blocks_emit_behind

pub returns-clause-heads : goal.returns-clause-heads
returns-clause-heads c = heads_emit_behind

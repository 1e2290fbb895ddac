use Rattle.loop_heads.proofs.AllHeads.{one_heads}
use Rattle.loop_heads.proofs.heads.one_heads.Goals as goal

pub returns : goal.returns
returns c = one_heads

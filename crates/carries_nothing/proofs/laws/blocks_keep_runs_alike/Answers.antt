use Rattle.carries_nothing.proofs.SameBlocks.{blocks_keep_alike}
use Rattle.carries_nothing.proofs.laws.blocks_keep_runs_alike.Goals as goal

pub returns : goal.returns
returns c = blocks_keep_alike

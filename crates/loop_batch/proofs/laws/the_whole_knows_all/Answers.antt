use Rattle.loop_batch.proofs.Reached.{knows_all}
use Rattle.loop_batch.proofs.laws.the_whole_knows_all.Goals as goal

pub returns : goal.returns
returns c = knows_all

use Rattle.fold_pool.proofs.Reached.{knows_all}
use Rattle.fold_pool.proofs.laws.the_whole_weight_knows_all.Goals as goal

pub returns : goal.returns
returns c = knows_all

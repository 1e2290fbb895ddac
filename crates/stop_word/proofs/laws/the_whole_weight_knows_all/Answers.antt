use Rattle.stop_word.proofs.Reached.{knows_all}
use Rattle.stop_word.proofs.laws.the_whole_weight_knows_all.Goals as goal

pub returns : goal.returns
returns c = knows_all

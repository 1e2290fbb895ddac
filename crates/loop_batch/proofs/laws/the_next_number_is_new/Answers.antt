use Rattle.loop_batch.proofs.Reached.{next_is_new}
use Rattle.loop_batch.proofs.laws.the_next_number_is_new.Goals as goal

pub returns : goal.returns
returns c = next_is_new

use Rattle.loop_values.proofs.FormedLemmas.{kinds_formed}
use Rattle.loop_values.proofs.laws.kinds_are_well_formed.Goals as goal

pub returns : goal.returns
returns c = kinds_formed

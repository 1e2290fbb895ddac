use Rattle.loop_values.proofs.StrictLemmas.{no_default}
use Rattle.loop_values.proofs.laws.no_default_is_asked.Goals as goal

pub returns : goal.returns
returns c = no_default

use Rattle.loop_values.proofs.NamesLemmas.{settled}
use Rattle.loop_values.proofs.laws.value_depends_on_its_names.Goals as goal

pub returns : goal.returns
returns c = settled

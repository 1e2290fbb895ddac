use Rattle.loop_values.proofs.KindNames.{settled}
use Rattle.loop_values.proofs.laws.kind_depends_on_its_names.Goals as goal

pub returns : goal.returns
returns c = settled

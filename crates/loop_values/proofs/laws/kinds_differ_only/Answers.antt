use Rattle.loop_values.proofs.FaultLemmas.{differs_only}
use Rattle.loop_values.proofs.laws.kinds_differ_only.Goals as goal

pub returns : goal.returns
returns c = differs_only

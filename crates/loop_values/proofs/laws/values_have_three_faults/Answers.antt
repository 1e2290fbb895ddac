use Rattle.loop_values.proofs.FaultLemmas.{three_faults}
use Rattle.loop_values.proofs.laws.values_have_three_faults.Goals as goal

pub returns : goal.returns
returns c = three_faults

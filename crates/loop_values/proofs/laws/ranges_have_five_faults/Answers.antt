use Rattle.loop_values.proofs.FaultLemmas.{five_faults}
use Rattle.loop_values.proofs.laws.ranges_have_five_faults.Goals as goal

pub returns : goal.returns
returns c = five_faults

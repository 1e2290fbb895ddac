use Rattle.tower_inputs.proofs.InputFaults.{input_faults}
use Rattle.tower_inputs.proofs.laws.inputs_have_three_faults.Goals as goal

pub returns : goal.returns
returns c = input_faults

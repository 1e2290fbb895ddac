use Rattle.tower_inputs.proofs.InputFaults.{kinds_differ_only}
use Rattle.tower_inputs.proofs.laws.input_kinds_differ_only.Goals as goal

pub returns : goal.returns
returns c = kinds_differ_only

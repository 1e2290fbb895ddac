use Rattle.tower_inputs.proofs.InputNames.{input_settled}
use Rattle.tower_inputs.proofs.laws.input_depends_on_its_names.Goals as goal

pub returns : goal.returns
returns c = input_settled

use Rattle.tower_inputs.proofs.InputNames.{kinds_settled}
use Rattle.tower_inputs.proofs.laws.input_kinds_depend_on_their_names.Goals as goal

pub returns : goal.returns
returns c = kinds_settled

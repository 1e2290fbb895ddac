use Rattle.tower_inputs.proofs.InputFits.{kinds_plain}
use Rattle.tower_inputs.proofs.laws.input_kinds_are_plain.Goals as goal

pub returns : goal.returns
returns c = kinds_plain

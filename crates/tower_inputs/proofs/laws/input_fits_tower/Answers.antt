use Rattle.tower_inputs.proofs.InputFits.{input_fits}
use Rattle.tower_inputs.proofs.laws.input_fits_tower.Goals as goal

pub returns : goal.returns
returns c = input_fits

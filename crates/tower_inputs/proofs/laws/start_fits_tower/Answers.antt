use Rattle.tower_inputs.proofs.InputFits.{start_fits}
use Rattle.tower_inputs.proofs.laws.start_fits_tower.Goals as goal

pub returns : goal.returns
returns c = start_fits

use Rattle.fitting_inputs.proofs.BlockLemmas.{blocks_fit}
use Rattle.fitting_inputs.proofs.laws.blocks_keep_runs_fitting.Goals as goal

pub returns : goal.returns
returns c = blocks_fit

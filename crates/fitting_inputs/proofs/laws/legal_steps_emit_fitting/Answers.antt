use Rattle.fitting_inputs.proofs.LegalRuns.{legal_steps_fit}
use Rattle.fitting_inputs.proofs.laws.legal_steps_emit_fitting.Goals as goal

pub returns : goal.returns
returns c = legal_steps_fit

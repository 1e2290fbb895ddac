use Rattle.fitting_inputs.proofs.LegalRuns.{legal_stretches_fit}
use Rattle.fitting_inputs.proofs.laws.legal_stretches_emit_fitting.Goals as goal

pub returns : goal.returns
returns c = legal_stretches_fit

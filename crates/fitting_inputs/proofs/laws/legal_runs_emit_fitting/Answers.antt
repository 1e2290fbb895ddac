use Rattle.fitting_inputs.proofs.LegalRuns.{legal_runs_fit}
use Rattle.fitting_inputs.proofs.laws.legal_runs_emit_fitting.Goals as goal

pub returns : goal.returns
returns c = legal_runs_fit

use Rattle.fitting_inputs.proofs.StrictRuns.{legal_runs_are_strict}
use Rattle.fitting_inputs.proofs.laws.legal_runs_ask_for_no_default.Goals as goal

pub returns : goal.returns
returns c = legal_runs_are_strict

use Rattle.legality_check.proofs.InputLaws.{legal_inputs_fit}
use Rattle.legality_check.proofs.laws.legal_inputs_fit.Goals as goal

pub returns : goal.returns
returns c = legal_inputs_fit

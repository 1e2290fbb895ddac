use Rattle.fitting_inputs.proofs.KindedLines.{legal_expressions_have_kinds as law}
use Rattle.fitting_inputs.proofs.laws.legal_expressions_have_kinds.Goals as goal

pub returns : goal.returns
returns c = law

use Rattle.fitting_inputs.proofs.LegalRuns.{legal_heads_have_kinds as law}
use Rattle.fitting_inputs.proofs.laws.legal_heads_have_kinds.Goals as goal

pub returns : goal.returns
returns c = law

use Rattle.fitting_inputs.proofs.LegalRuns.{fitting_pairs_are_named as law}
use Rattle.fitting_inputs.proofs.laws.fitting_pairs_are_named.Goals as goal

pub returns : goal.returns
returns c = law

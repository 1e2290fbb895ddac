use Rattle.fitting_inputs.proofs.EntryFacts.{legal_entries_fit}
use Rattle.fitting_inputs.proofs.laws.legal_lines_fit.Goals as goal

pub returns : goal.returns
returns c = legal_entries_fit

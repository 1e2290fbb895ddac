use Rattle.program_rows.proofs.FitLemmas.{fitting_pairs_fit}
use Rattle.program_rows.proofs.laws.fitting_pairs_fit_the_row.Goals as goal

pub returns : goal.returns
returns c = fitting_pairs_fit

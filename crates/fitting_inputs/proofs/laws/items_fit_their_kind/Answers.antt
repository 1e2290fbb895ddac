use Rattle.fitting_inputs.proofs.ItemLemmas.{items_fit}
use Rattle.fitting_inputs.proofs.laws.items_fit_their_kind.Goals as goal

pub returns : goal.returns
returns c = items_fit

use Rattle.loop_values.proofs.DivisionLemmas.{modulo_splits}
use Rattle.loop_values.proofs.laws.modulo_splits.Goals as goal

pub returns : goal.returns
returns c = modulo_splits

use Rattle.loop_values.proofs.PlainLemmas.{not_nothing}
use Rattle.loop_values.proofs.laws.not_nothing_fits.Goals as goal

pub returns : goal.returns
returns c = not_nothing

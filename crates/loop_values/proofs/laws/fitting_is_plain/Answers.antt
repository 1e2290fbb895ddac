use Rattle.loop_values.proofs.PlainLemmas.{fitting_is_plain}
use Rattle.loop_values.proofs.laws.fitting_is_plain.Goals as goal

pub returns : goal.returns
returns c = fitting_is_plain

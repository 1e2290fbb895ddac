use Rattle.loop_values.proofs.PlainLemmas.{tuple_fits}
use Rattle.loop_values.proofs.laws.tuples_fit_by_parts.Goals as goal

pub returns : goal.returns
returns c = tuple_fits

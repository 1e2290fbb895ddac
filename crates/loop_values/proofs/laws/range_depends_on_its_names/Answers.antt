use Rattle.loop_values.proofs.RangeLemmas.{range_settled}
use Rattle.loop_values.proofs.laws.range_depends_on_its_names.Goals as goal

pub returns : goal.returns
returns c = range_settled

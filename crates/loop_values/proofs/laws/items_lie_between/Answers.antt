use Rattle.loop_values.proofs.RangeLemmas.{items_between}
use Rattle.loop_values.proofs.laws.items_lie_between.Goals as goal

pub returns : goal.returns
returns c = items_between

use Rattle.number_ranges.proofs.Items.{items_from-none, items_from-suc}
use Rattle.number_ranges.proofs.laws.items_one_by_one.Goals as goal

pub returns-clause-none : goal.returns-clause-none
returns-clause-none c = items_from-none

pub returns-clause-some : goal.returns-clause-some
returns-clause-some c = items_from-suc

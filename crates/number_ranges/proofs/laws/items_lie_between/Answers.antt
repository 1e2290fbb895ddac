use Rattle.number_ranges.proofs.RangeFits.{lies_between, item_fits}
use Rattle.number_ranges.proofs.laws.items_lie_between.Goals as goal

pub returns-clause-between : goal.returns-clause-between
returns-clause-between c = lies_between

pub returns-clause-fit : goal.returns-clause-fit
returns-clause-fit c = item_fits

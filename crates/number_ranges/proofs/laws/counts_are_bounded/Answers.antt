use Rattle.number_ranges.proofs.RangeFits.{count_bounded}
use Rattle.number_ranges.proofs.laws.counts_are_bounded.Goals as goal

pub returns : goal.returns
returns c = count_bounded

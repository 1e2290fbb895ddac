use Rattle.number_ranges.proofs.RangeFits.{in_range_iff}
use Rattle.number_ranges.proofs.laws.ranges_hold_what_is_not_past_their_last.Goals as goal

pub returns : goal.returns
returns c = in_range_iff

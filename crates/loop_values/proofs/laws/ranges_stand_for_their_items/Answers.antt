use Rattle.loop_values.proofs.RangeLemmas.{items_counted, range_items_of}
use Rattle.loop_values.proofs.laws.ranges_stand_for_their_items.Goals as goal

pub returns-clause-items : goal.returns-clause-items
returns-clause-items c = range_items_of

pub returns-clause-count : goal.returns-clause-count
returns-clause-count c = items_counted

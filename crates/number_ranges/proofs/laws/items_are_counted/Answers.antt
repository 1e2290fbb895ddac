use Rattle.number_ranges.specs.Ranges.{range_count}
use Rattle.number_ranges.proofs.Items.{length-items_from}
use Rattle.number_ranges.proofs.laws.items_are_counted.Goals as goal

pub returns-clause-range : goal.returns-clause-range
returns-clause-range c = λ first step last. length-items_from first step (range_count first step last)

pub returns-clause-length : goal.returns-clause-length
returns-clause-length c = length-items_from

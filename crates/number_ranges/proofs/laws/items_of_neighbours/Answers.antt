use Rattle.number_ranges.proofs.Items.{items_from-add}
use Rattle.number_ranges.proofs.Steps.{steps_add}
use Rattle.number_ranges.proofs.laws.items_of_neighbours.Goals as goal

pub returns-clause-items : goal.returns-clause-items
returns-clause-items c = items_from-add

pub returns-clause-steps : goal.returns-clause-steps
returns-clause-steps c = steps_add

use Rattle.number_ranges.proofs.Items.{slice_get-items_from}
use Rattle.number_ranges.proofs.laws.items_by_place.Goals as goal

pub returns : goal.returns
returns c = slice_get-items_from

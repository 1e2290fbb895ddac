use Rattle.carries_nothing.proofs.Cuts.{stop_is_its_items, stops_leftmost}
use Rattle.carries_nothing.proofs.laws.leftmost_stop_decides.Goals as goal

pub returns-clause-place : goal.returns-clause-place
returns-clause-place c = stops_leftmost

pub returns-clause-stop : goal.returns-clause-stop
returns-clause-stop c = stop_is_its_items

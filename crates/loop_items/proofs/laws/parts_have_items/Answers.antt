use Rattle.loop_items.proofs.PartLemmas.{items_of_places, neighbours_have, whole_has_all}
use Rattle.loop_items.proofs.laws.parts_have_items.Goals as goal

pub returns-clause-places : goal.returns-clause-places
returns-clause-places c = items_of_places

pub returns-clause-whole : goal.returns-clause-whole
returns-clause-whole c = whole_has_all

pub returns-clause-neighbours : goal.returns-clause-neighbours
returns-clause-neighbours c = neighbours_have

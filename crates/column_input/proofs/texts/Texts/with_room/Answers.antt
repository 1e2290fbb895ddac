use Rattle.column_input.proofs.TextsLemmas.{kept_none, texts_none}
use Rattle.column_input.proofs.texts.Texts.with_room.Goals as goal

pub invariant_of-result : goal.invariant_of-result
invariant_of-result c = kept_none _ _ c.in_ok-with_capacity.ensures.items c.new.ensures.items

pub returns : goal.returns
returns c = texts_none _ _ c.new.ensures.items

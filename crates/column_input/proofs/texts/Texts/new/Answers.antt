use Rattle.column_input.proofs.TextsLemmas.{kept_none, texts_none}
use Rattle.column_input.proofs.texts.Texts.new.Goals as goal

pub invariant_of-result : goal.invariant_of-result
invariant_of-result c = kept_none _ _ c.new.ensures.items c.new-2.ensures.items

pub returns : goal.returns
returns c = texts_none _ _ c.new-2.ensures.items

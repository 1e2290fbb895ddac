use Rattle.column_input.proofs.TextsLemmas.{kept_none, texts_none}
use Rattle.column_input.proofs.texts.Texts.clear.Goals as goal

pub invariant_of-self : goal.invariant_of-self
invariant_of-self c = kept_none _ _ c.clear.ensures.items c.clear-2.ensures.items

pub returns : goal.returns
returns c = texts_none _ _ c.clear-2.ensures.items

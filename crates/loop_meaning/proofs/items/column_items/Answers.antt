use Rattle.std.proofs.Common.{◌++◌, ◌∷◌, [], ap, ◌∙◌}
use Rattle.loop_data.specs.declared.value.Value.TheVariants.{Text}
use Rattle.loop_meaning.proofs.ItemLemmas.{one_text}
use Rattle.loop_meaning.proofs.items.column_items.Goals as goal

-- one more text
pub loop-k-preserved : goal.loop-k-preserved
loop-k-preserved c =
    one_text c.in-Some.column c.loop-k.k c.text.result.now c.loop-k.items c.push.new.self c.text.ensures c.loop-k.invariant
    (c.in_ok-push.ensures.ok ∙ ap (λ t. c.loop-k.items ++ Text t ∷ []) c.in_ok-text.ensures.text)

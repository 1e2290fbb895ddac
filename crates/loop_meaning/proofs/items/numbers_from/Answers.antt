use Rattle.std.proofs.Common.{◌++◌, ◌∷◌, [], map, ap, sym, ◌∙◌, rules}
use Rattle.std.specs.Prelude.{FitsSigned}
use Rattle.std.specs.Int.{w64}
use Rattle.std.proofs.lemmas.Int.{to_z-of_z}
use Rattle.number_ranges.proofs.Items.{items_from-none}
use Rattle.loop_data.specs.declared.value.Value.TheVariants.{Int}
use Rattle.loop_meaning.proofs.ItemLemmas.{one_number}
use Rattle.loop_meaning.proofs.items.numbers_from.Goals as goal

-- no number yet
pub loop-before-init : goal.loop-before-init
loop-before-init c = c.new-items.ensures ∙ sym (ap (map Int) (items_from-none _ _))

-- one more number
pub loop-before-preserved : goal.loop-before-preserved
loop-before-preserved c =
    let fits : FitsSigned w64 c.range_item.result = search rules in
    one_number _ _ c.range_item.result c.loop-before.before c.loop-before.items c.push.new.self c.loop-before.invariant c.range_item.ensures
    (c.in_ok-push.ensures.ok ∙ ap (λ n. c.loop-before.items ++ Int n ∷ []) (to_z-of_z w64 c.range_item.result fits))

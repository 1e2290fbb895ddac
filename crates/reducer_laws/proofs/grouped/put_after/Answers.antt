use Rattle.std.proofs.Common.{◌≡◌, Some, sym, subst, ◌∙◌}
use Rattle.reducer_laws.specs.Groups.{state_at, MayMergeInto, TogetherWhere}
use Rattle.reducer_laws.proofs.GroupLemmas.{put_together, replaced, found}
use Rattle.reducer_laws.proofs.grouped.put_after.Goals as goal

pub merge_into-requires : goal.merge_into-requires
merge_into-requires g c =
    let here : state_at c.args.key c.args.tree.now.entries ≡ c.remove-before.result = found c.args.key c.args.tree.now.entries ∙ sym c.remove-before.ensures.value in
    subst (λ o. MayMergeInto (g.R.Reducer.stands c.args.inner.now) o c.args.state) here c.requires

pub returns : goal.returns
returns g c =
    let stands = g.R.Reducer.stands c.args.inner.now in
    let whole = c.in_ok-whole.whole in
    let old = c.args.tree.now in
    let new = c.insert.new.self in
    let here : state_at c.args.key old.entries ≡ c.remove-before.result = found c.args.key old.entries ∙ sym c.remove-before.ensures.value in
    put_together stands old.entries new.entries c.args.key c.args.state whole c.in_ok-insert.ensures.ordered
    (replaced old c.remove-before.new.self new c.args.key (Some whole) c.remove-before.ensures.updates c.in_ok-insert.ensures.updates)
    (subst (λ o. TogetherWhere stands o (Some c.args.state) (Some whole)) (sym here) c.in_ok-whole.ensures)

use Rattle.std.specs.Prelude.{slice_get}
use Rattle.std.proofs.lemmas.Option.{slice_get_read}
use Rattle.std.proofs.Common.{◌≡◌, ◌+◌, Some, [], ◌∷◌, length, length-append, refl, sym, ap, subst, ◌∙◌, arith}
use Rattle.reducer_tower.specs.Rows.{RowStands}
use Rattle.reducer_tower.proofs.RowLemmas.{UnitsOf, units_none, units_push, units_stand}
use Rattle.reducer_tower.proofs.row.RowReducer.unit.Goals as goal

pub loop-named-init : goal.loop-named-init
loop-named-init c = (ap length c.new-states.ensures.items, subst (λ ss. UnitsOf c.deref-named-items.result.now ss) (sym c.new-states.ensures.items) (units_none c.deref-named-items.result.now))

pub loop-named-preserved : goal.loop-named-preserved
loop-named-preserved c =
    let towers = c.deref-named-items.result.now in
    let states = c.loop-named.states.items in
    let (as_many, units) = c.loop-named.invariant in
    let item = slice_get_read towers _ c.loop-named.named-index c.named-item.result refl c.loop-named-test.true c.named-item.is in
    let at = subst (λ k. slice_get towers k ≡ Some c.named-item.result) (sym as_many) item in
    let more = c.in_ok-push.ensures.items in (
      ap length more ∙ length-append states (c.in_ok-unit.field-0 ∷ []) ∙ ap (λ n. n + 1) as_many,
      subst (λ ss. UnitsOf towers ss) (sym more) (units_push towers states c.named-item.result c.in_ok-unit.field-0 at c.in_ok-unit.ensures.stands units),
    )

pub returns-clause-stands : goal.returns-clause-stands
returns-clause-stands c =
    units_stand c.args.self.now.towers.items c.loop-named.states.items
    (c.loop-named.invariant.0 ∙ omega (arith, c.loop-named-test.false, c.loop-named.auto.named-index-end) ∙ ap length c.deref-named-items.ensures.value)
    (subst (λ ts. UnitsOf ts c.loop-named.states.items) c.deref-named-items.ensures.value c.loop-named.invariant.1)

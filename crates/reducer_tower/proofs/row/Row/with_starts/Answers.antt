use Rattle.std.proofs.Common.{◌≡◌, ◌<◌, Some, refl, ap, subst, ◌∙◌, length, arith}
use Rattle.std.specs.Prelude.{slice_get}
use Rattle.std.proofs.lemmas.Option.{slice_get_read}
use Rattle.reducer_tower.proofs.RowLemmas.{started_none, may_start, start_of, started_next, starts_not_over, nothing_left, started_all}
use Rattle.reducer_tower.proofs.row.Row.with_starts.Goals as goal

pub loop-named-init : goal.loop-named-init
loop-named-init c =
    started_none c.args.self.now.towers.items c.args.state.states.items c.into_iter-rest.result.rest.items c.new-states.result.items
    c.into_iter-rest.ensures.rest c.new-states.ensures.items

pub returns-in_default : goal.returns-in_default
returns-in_default c = λ inputs h.
    let none = nothing_left c.loop-named.rest.rest.len (length c.loop-named.rest.rest.items) c.loop-named.rest.rest.ok.0 c.in_default.ensures.variant.1 in
    let few = subst (λ l. c.loop-named.named-index < length l) c.deref-named-items.ensures.value c.loop-named-test.true in
    absurd (starts_not_over c.args.self.now.towers.items c.args.state.states.items c.loop-named.rest.rest.items c.loop-named.states.items c.loop-named.named-index inputs c.loop-named.invariant few none h)

pub with_start-requires-clause-fits : goal.with_start-requires-clause-fits
with_start-requires-clause-fits c =
    let at = subst (λ l. slice_get l c.loop-named.named-index ≡ Some c.named-item.result) c.deref-named-items.ensures.value (slice_get_read c.deref-named-items.result.now _ c.loop-named.named-index c.named-item.result refl c.loop-named-test.true c.named-item.is) in
    start_of c.args.self.now.towers.items c.loop-named.named-index c.named-item.result c.args.self.now.starts_fit at

pub with_start-requires-clause-room : goal.with_start-requires-clause-room
with_start-requires-clause-room c =
    let at = subst (λ l. slice_get l c.loop-named.named-index ≡ Some c.named-item.result) c.deref-named-items.ensures.value (slice_get_read c.deref-named-items.result.now _ c.loop-named.named-index c.named-item.result refl c.loop-named-test.true c.named-item.is) in
    may_start c.args.self.now.towers.items c.args.state.states.items c.loop-named.rest.rest.items c.loop-named.states.items c.next.new.self.rest.items
    c.loop-named.named-index c.named-item.result c.in-Some.state c.loop-named.invariant at c.in-Some.ensures.items c.requires

pub loop-named-preserved : goal.loop-named-preserved
loop-named-preserved c =
    let at = subst (λ l. slice_get l c.loop-named.named-index ≡ Some c.named-item.result) c.deref-named-items.ensures.value (slice_get_read c.deref-named-items.result.now _ c.loop-named.named-index c.named-item.result refl c.loop-named-test.true c.named-item.is) in
    started_next c.args.self.now.towers.items c.args.state.states.items c.loop-named.rest.rest.items c.loop-named.states.items c.next.new.self.rest.items c.push.new.self.items
    c.loop-named.named-index c.named-item.result c.in-Some.state c.in_ok-with_start.field-0 c.loop-named.invariant at c.in-Some.ensures.items c.in_ok-push.ensures.items c.in_ok-with_start.ensures

pub returns : goal.returns
returns c =
    started_all c.args.self.now.towers.items c.args.state.states.items c.loop-named.rest.rest.items c.loop-named.states.items c.loop-named.named-index
    c.loop-named.invariant (omega (arith, c.loop-named-test.false, c.loop-named.auto.named-index-end) ∙ ap length c.deref-named-items.ensures.value)

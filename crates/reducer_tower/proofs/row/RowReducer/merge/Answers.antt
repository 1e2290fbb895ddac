use Rattle.std.proofs.Common.{◌≡◌, ◌<◌, Some, refl, sym, ap, subst, ◌∙◌, length, arith, rules}
use Rattle.std.specs.Prelude.{slice_get}
use Rattle.std.proofs.lemmas.Option.{slice_get_read}
use Rattle.reducer_tower.proofs.RowLemmas.{MergedSoFar, merged_none, row_may_merge, merged_next, not_over, not_over_right, nothing_left, merged_all}
use Rattle.reducer_tower.proofs.row.RowReducer.merge.Goals as goal

pub loop-named-init : goal.loop-named-init
loop-named-init c =
    merged_none c.args.self.now.towers.items c.args.left.states.items c.args.right.states.items c.into_iter-lefts.result.rest.items c.into_iter-rights.result.rest.items c.new-states.result.items
    c.into_iter-lefts.ensures.rest c.into_iter-rights.ensures.rest c.new-states.ensures.items

pub returns-in_default-clause-stands : goal.returns-in_default-clause-stands
returns-in_default-clause-stands c = λ xs ys g h.
    let none = nothing_left c.loop-named.lefts.rest.len (length c.loop-named.lefts.rest.items) c.loop-named.lefts.rest.ok.0 c.in_default.ensures.variant.1 in
    let few = subst (λ l. c.loop-named.named-index < length l) c.deref-named-items.ensures.value c.loop-named-test.true in
    absurd (not_over c.args.self.now.towers.items c.args.left.states.items c.args.right.states.items c.loop-named.lefts.rest.items c.loop-named.rights.rest.items c.loop-named.states.items c.loop-named.named-index xs c.loop-named.invariant few none g)

pub returns-in_default-next-clause-stands : goal.returns-in_default-next-clause-stands
returns-in_default-next-clause-stands c = λ xs ys g h.
    let none = nothing_left c.loop-named.rights.rest.len (length c.loop-named.rights.rest.items) c.loop-named.rights.rest.ok.0 c.in_default-next.ensures.variant.1 in
    let few = subst (λ l. c.loop-named.named-index < length l) c.deref-named-items.ensures.value c.loop-named-test.true in
    absurd (not_over_right c.args.self.now.towers.items c.args.left.states.items c.args.right.states.items c.loop-named.lefts.rest.items c.loop-named.rights.rest.items c.loop-named.states.items c.loop-named.named-index ys c.loop-named.invariant few none h)

pub merge-requires : goal.merge-requires
merge-requires c =
    let at = subst (λ l. slice_get l c.loop-named.named-index ≡ Some c.named-item.result) c.deref-named-items.ensures.value (slice_get_read c.deref-named-items.result.now _ c.loop-named.named-index c.named-item.result refl c.loop-named-test.true c.named-item.is) in
    record {
      room = row_may_merge c.args.self.now.towers.items c.args.left.states.items c.args.right.states.items c.loop-named.lefts.rest.items c.loop-named.rights.rest.items c.loop-named.states.items c.next.new.self.rest.items c.next-in-loop-named.new.self.rest.items
          c.loop-named.named-index c.named-item.result c.in-Some.before c.in-Some-next.after c.loop-named.invariant at c.in-Some.ensures.items c.in-Some-next.ensures.items c.requires.room;
    }

pub loop-named-preserved : goal.loop-named-preserved
loop-named-preserved c =
    let at = subst (λ l. slice_get l c.loop-named.named-index ≡ Some c.named-item.result) c.deref-named-items.ensures.value (slice_get_read c.deref-named-items.result.now _ c.loop-named.named-index c.named-item.result refl c.loop-named-test.true c.named-item.is) in
    merged_next c.args.self.now.towers.items c.args.left.states.items c.args.right.states.items c.loop-named.lefts.rest.items c.loop-named.rights.rest.items c.loop-named.states.items c.next.new.self.rest.items c.next-in-loop-named.new.self.rest.items c.push.new.self.items
    c.loop-named.named-index c.named-item.result c.in-Some.before c.in-Some-next.after c.in_ok-merge.field-0 c.loop-named.invariant at c.in-Some.ensures.items c.in-Some-next.ensures.items
    c.in_ok-push.ensures.items c.in_ok-merge.ensures.stands

pub returns-clause-stands : goal.returns-clause-stands
returns-clause-stands c =
    merged_all c.args.self.now.towers.items c.args.left.states.items c.args.right.states.items c.loop-named.lefts.rest.items c.loop-named.rights.rest.items c.loop-named.states.items c.loop-named.named-index
    c.loop-named.invariant (omega (arith, c.loop-named-test.false, c.loop-named.auto.named-index-end) ∙ ap length c.deref-named-items.ensures.value)

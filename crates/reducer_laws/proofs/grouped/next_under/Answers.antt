use Rattle.std.proofs.Common.{◌≡◌, Some, None, sym, subst, ◌∙◌, rules}
use Rattle.std.specs.Ordering.{nat_cmp}
use Rattle.std.specs.Cmp.Lexicographic.{slice_cmp}
use Rattle.std.specs.BTreeMap.{Updates}
use Rattle.reducer_laws.specs.Groups.{state_at}
use Rattle.reducer_laws.proofs.GroupLemmas.{group_next, updated, found, may_take, on_ok, TakesWhere}
use Rattle.reducer_laws.proofs.grouped.next_under.Goals as goal

pub next-requires-clause-room : goal.next-requires-clause-room
next-requires-clause-room g c =
    may_take (g.R.Reducer.stands c.args.inner.now) c.args.tree.now.entries c.args.key c.in-Some.state.now (sym c.in-Some.ensures.value) c.requires.room

pub returns-in-Some-clause-stands : goal.returns-in-Some-clause-stands
returns-in-Some-clause-stands g c =
    let stands = g.R.Reducer.stands c.args.inner.now in
    let after = c.next.new.state in
    let old = c.args.tree.now in
    let new = c.get_mut.follows.lender after in
    let held = c.get_mut.follows.holds after in
    let here : state_at c.args.key old.entries ≡ Some c.in-Some.state.now = found c.args.key old.entries ∙ sym c.in-Some.ensures.value in
    on_ok c.next.result
    (λ t. group_next stands old.entries new.entries c.args.key c.args.input after held.4
    (updated old new c.args.key (Some after) (held.3 (search rules)))
    (subst (λ o. TakesWhere stands o c.args.input after) (sym here) t))
    c.next.ensures.stands

pub returns-clause-stands : goal.returns-clause-stands
returns-clause-stands g c =
    let stands = g.R.Reducer.stands c.args.inner.now in
    let after = c.in_ok-state.state in
    let old = c.args.tree.now in
    let new = c.insert.new.self in
    let none : state_at c.args.key old.entries ≡ None = found c.args.key old.entries ∙ sym c.in_default.ensures.value in
    let written = subst (λ m. Updates (slice_cmp nat_cmp) m new c.args.key (Some after)) c.get_mut.follows.holds-at-none c.in_ok-insert.ensures.updates in
    group_next stands old.entries new.entries c.args.key c.args.input after c.in_ok-insert.ensures.ordered
    (updated old new c.args.key (Some after) written)
    (subst (λ o. TakesWhere stands o c.args.input after) (sym none) c.in_ok-state.ensures)

-- where the key isn't there nothing is promised
pub returns-in_err-state-clause-free : goal.returns-in_err-state-clause-free
returns-in_err-state-clause-free g c = λ free there. absurd (there (found c.args.key c.args.tree.now.entries ∙ sym c.in_default.ensures.value))

pub returns-in_err-insert-clause-free : goal.returns-in_err-insert-clause-free
returns-in_err-insert-clause-free g c = λ free there. absurd (there (found c.args.key c.args.tree.now.entries ∙ sym c.in_default.ensures.value))

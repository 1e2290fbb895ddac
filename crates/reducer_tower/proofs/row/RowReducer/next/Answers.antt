use Rattle.std.proofs.Common.{◌≡◌, Some, refl, sym, subst}
use Rattle.std.specs.Prelude.{OnOk, true, slice_get}
use Rattle.std.proofs.lemmas.Option.{slice_get_read}
use Rattle.loop_values.specs.Fits.{fits_tower}
use Rattle.reducer_laws.proofs.GroupLemmas.{on_ok}
use Rattle.reducer_tower.specs.declared.named.Named.{Named}
use Rattle.reducer_tower.proofs.RowLemmas.{row_may_take, row_next, held_once}
use Rattle.reducer_tower.proofs.row.RowReducer.next.Goals as goal

pub next-requires-clause-room : goal.next-requires-clause-room
next-requires-clause-room c =
    let i = c.args.input.tower in
    let towers = c.args.self.now.towers.items in
    let states = c.args.state.now.states.items in
    let z = c.in-Some.ensures.lookup in
    let x = c.in-Some-get_mut.ensures.item in
    let a = subst (λ l. slice_get l i ≡ Some c.in-Some.named.now) c.deref.ensures.value (slice_get_read c.deref.result.now _ i c.in-Some.named.now refl z.3.0 z.1) in
    let b = slice_get_read states _ i c.in-Some-get_mut.slot.now refl x.3.0 x.1 in
    row_may_take towers states i c.in-Some.named.now c.in-Some-get_mut.slot.now a b c.requires.room

pub next-requires-clause-accepts : goal.next-requires-clause-accepts
next-requires-clause-accepts c =
    let i = c.args.input.tower in
    let z = c.in-Some.ensures.lookup in
    let a = subst (λ l. slice_get l i ≡ Some c.in-Some.named.now) c.deref.ensures.value (slice_get_read c.deref.result.now _ i c.in-Some.named.now refl z.3.0 z.1) in
    let (named, is, fit) = c.requires.accepts in
    subst (λ (n : Named). fits_tower n.tower.kind c.args.input.value ≡ true) (held_once named c.in-Some.named.now (slice_get c.args.self.now.towers.items i) is a) fit

pub returns-in-Some-get_mut-clause-stands : goal.returns-in-Some-get_mut-clause-stands
returns-in-Some-get_mut-clause-stands c =
    let i = c.args.input.tower in
    let towers = c.args.self.now.towers.items in
    let states = c.args.state.now.states.items in
    let z = c.in-Some.ensures.lookup in
    let x = c.in-Some-get_mut.ensures.item in
    let a = subst (λ l. slice_get l i ≡ Some c.in-Some.named.now) c.deref.ensures.value (slice_get_read c.deref.result.now _ i c.in-Some.named.now refl z.3.0 z.1) in
    let b = slice_get_read states _ i c.in-Some-get_mut.slot.now refl x.3.0 x.1 in
    on_ok c.next.result (row_next towers states c.args.input c.in-Some.named.now c.in-Some-get_mut.slot.now c.next.new.state a b) c.next.ensures.stands

use Rattle.std.proofs.Common.{◌≡◌, Some, refl, sym, subst, ◌∙◌}
use Rattle.std.specs.Prelude.{slice_get}
use Rattle.std.proofs.lemmas.Option.{slice_get_read}
use Rattle.reducer_tower.specs.Rows.{inputs_of, number_of}
use Rattle.reducer_tower.proofs.RowLemmas.{held_once}
use Rattle.reducer_tower.proofs.TextLemmas.{says_the_result}
use Rattle.reducer_tower.proofs.row.Row.text.Goals as goal

pub returns-clause-text : goal.returns-clause-text
returns-clause-text c = λ i named inputs at here h.
    let towers = c.args.self.now.towers.items in
    let states = c.args.state.now.states.items in
    let number = c.in-Some.number in
    let same : number ≡ i = held_once number i (number_of c.args.name.now towers) (sym c.tower.ensures ∙ c.in-Some.is) at in
    let z = c.in-Some-get.ensures.lookup in
    let there = subst (λ l. slice_get l number ≡ Some c.in-Some-get.state.now) c.deref.ensures.value (slice_get_read c.deref.result.now _ number c.in-Some-get.state.now refl z.3.0 z.1) in
    let stood = h.each i named c.in-Some-get.state.now here (subst (λ k. slice_get states k ≡ Some c.in-Some-get.state.now) same there) in
    c.in_ok-text-in-Some-get.ensures ∙ says_the_result named.tower.kind c.in-Some-get.state.now (inputs_of i inputs) stood

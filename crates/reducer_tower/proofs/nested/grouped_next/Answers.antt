use Rattle.std.proofs.Common.{◌≡◌, sym, subst, rules}
use Rattle.std.specs.Prelude.{OnOk}
use Rattle.loop_results.specs.Results.{input_at_key}
use Rattle.reducer_laws.specs.Standing.{TakesNext}
use Rattle.reducer_laws.specs.Groups.{GroupsStand}
use Rattle.reducer_laws.proofs.GroupLemmas.{on_ok}
use Rattle.reducer_tower.specs.declared.state.TowerState.TheVariants as state
use Rattle.reducer_tower.specs.Stands.{GroupedStand}
use Rattle.reducer_tower.proofs.TowerLemmas.{grouped_taken, held_once}
use Rattle.reducer_tower.proofs.nested.grouped_next.Goals as goal

pub returns-in-Some : goal.returns-in-Some
returns-in-Some g c =
    let inner = g.N.Nested.stands c.args.inner.now in
    let parts : (c.in-Some.key, c.in-Some.input) ≡ input_at_key c.args.input =
    held_once (c.in-Some.key, c.in-Some.input) (input_at_key c.args.input) c.key_and_input.result c.in-Some.is (c.key_and_input.ensures c.requires.keyed) in
    let stood = subst (λ z. OnOk c.take.result (TakesNext (GroupsStand inner) z (c.in-Some.key, c.in-Some.input) c.take.new.self)) c.in-Grouped.groups-is c.take.ensures.stands in
    let taken = on_ok c.take.result (grouped_taken inner c.in-Grouped.groups c.take.new.self c.in-Some.key c.in-Some.input c.args.input parts) stood in
    let at = subst (λ s. OnOk c.take.result (TakesNext (GroupedStand inner) s c.args.input (state.Grouped c.take.new.self))) (sym c.in-Grouped.is) taken in
    subst (λ s. OnOk c.take.result (TakesNext (GroupedStand inner) c.args.state.now c.args.input s)) (search rules) at

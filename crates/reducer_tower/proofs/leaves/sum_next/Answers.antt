use Rattle.std.proofs.Common.{◌≡◌, to_z, of_z, w64, sym, subst, rules}
use Rattle.std.specs.Prelude.{OnOk}
use Rattle.loop_data.specs.ValueParts.{as_int}
use Rattle.reducer_laws.specs.Numbers.{IsSum}
use Rattle.reducer_laws.specs.Standing.{TakesNext}
use Rattle.reducer_laws.proofs.GroupLemmas.{on_ok}
use Rattle.reducer_tower.specs.declared.state.TowerState.TheVariants as state
use Rattle.reducer_tower.specs.Stands.{SumStands}
use Rattle.reducer_tower.proofs.TowerLemmas.{sum_taken}
use Rattle.reducer_tower.proofs.leaves.sum_next.Goals as goal

pub returns-in-Sum : goal.returns-in-Sum
returns-in-Sum c =
    let n = to_z w64 (of_z w64 c.as_int.result) in
    let number : n ≡ as_int c.args.input = search rules in
    let stood = subst (λ z. OnOk c.next.result (TakesNext IsSum z n c.next.new.state)) c.in-Sum.total-is c.next.ensures.stands in
    let taken = on_ok c.next.result (sum_taken c.in-Sum.total n c.next.new.state c.args.input number) stood in
    let at = subst (λ s. OnOk c.next.result (TakesNext SumStands s c.args.input (state.Sum c.next.new.state))) (sym c.in-Sum.is) taken in
    subst (λ s. OnOk c.next.result (TakesNext SumStands c.args.state.now c.args.input s)) (search rules) at

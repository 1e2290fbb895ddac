use Rattle.std.proofs.Common.{sym, subst, rules}
use Rattle.std.specs.Prelude.{OnOk}
use Rattle.reducer_laws.specs.Standing.{MayTake, TakesNext}
use Rattle.reducer_laws.proofs.GroupLemmas.{on_ok}
use Rattle.reducer_tower.specs.declared.state.TowerState.TheVariants as state
use Rattle.reducer_tower.specs.Stands.{CountStands}
use Rattle.reducer_tower.proofs.TowerLemmas.{Counts, count_taken, count_may_take}
use Rattle.reducer_tower.proofs.leaves.count_next.Goals as goal

pub next-requires-clause-room : goal.next-requires-clause-room
next-requires-clause-room c =
    subst (λ z. MayTake Counts z) (sym c.in-Count.n-is) (count_may_take c.in-Count.n (subst (λ s. MayTake CountStands s) c.in-Count.is c.requires))

pub returns-in-Count : goal.returns-in-Count
returns-in-Count c =
    let stood = subst (λ z. OnOk c.next.result (TakesNext Counts z tt c.next.new.state)) c.in-Count.n-is c.next.ensures.stands in
    let taken = on_ok c.next.result (count_taken c.in-Count.n c.next.new.state c.args.input) stood in
    let at = subst (λ s. OnOk c.next.result (TakesNext CountStands s c.args.input (state.Count c.next.new.state))) (sym c.in-Count.is) taken in
    subst (λ s. OnOk c.next.result (TakesNext CountStands c.args.state.now c.args.input s)) (search rules) at

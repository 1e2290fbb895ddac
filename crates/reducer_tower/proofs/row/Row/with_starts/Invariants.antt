use Rattle.reducer_tower.proofs.RowLemmas.{StartedSoFar}
use Rattle.reducer_tower.proofs.row.Row.with_starts.Given as goal

abbrev pub invariant-loop-named : goal.invariant-loop-named
invariant-loop-named l = StartedSoFar l.fn.self.towers.items l.fn.state.states.items l.rest.rest.items l.states.items l.named-index

use Rattle.std.proofs.Common.{◌≡◌, ◌++◌, List, length}
use Rattle.reducer_tower.specs.declared.state.TowerState.{TowerState}
use Rattle.reducer_tower.proofs.RowLemmas.{MergedSoFar}
use Rattle.reducer_tower.proofs.row.RowReducer.merge.Given as goal

abbrev pub invariant-loop-named : goal.invariant-loop-named
invariant-loop-named l = MergedSoFar l.fn.self.towers.items l.fn.left.states.items l.fn.right.states.items l.lefts.rest.items l.rights.rest.items l.states.items l.named-index

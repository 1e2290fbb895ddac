use Rattle.reducer_tower.specs.Rows.{RowStands}
use Rattle.tower_tests.proofs.tests.rows.fold_row.Given as goal

abbrev pub invariant-loop-input : goal.invariant-loop-input
invariant-loop-input g l = RowStands l.row.towers.items l.state.states.items l.yielded

use Rattle.std.proofs.Common.{take}
use Rattle.tower_tests.proofs.tests.reducers.fold_slice.Given as goal

abbrev pub invariant-loop-input : goal.invariant-loop-input
invariant-loop-input g l = g.R.Reducer.stands l.reducer l.state (take l.input-index l.inputs)

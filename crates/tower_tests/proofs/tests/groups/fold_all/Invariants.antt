use Rattle.tower_tests.proofs.tests.groups.fold_all.Given as goal

abbrev pub invariant-loop-input : goal.invariant-loop-input
invariant-loop-input g l = g.R.Reducer.stands l.reducer l.state l.yielded

use Rattle.tower_tests.proofs.tests.rows.fold_row.Goals as goal

pub loop-input-preserved : goal.loop-input-preserved
loop-input-preserved g c = c.in_ok-next.ensures.stands c.loop-input.yielded c.loop-input.invariant

use Rattle.fold_steal.specs.Joins.{rows_of}
use Rattle.fold_steal.specs.NewSeats.{AreDeques}
use Rattle.fold_steal.proofs.making.make_deques.Given as goal

abbrev pub invariant-loop-number : goal.invariant-loop-number
invariant-loop-number l = AreDeques l.shape l.least l.parts l.number l.workers l.owners.items (rows_of l.rows)

use Rattle.fold_steal.specs.Joins.{rows_of}
use Rattle.fold_steal.proofs.SeatedSteps.{AreSeatedUpTo}
use Rattle.fold_steal.proofs.crew.StealCrew.seat_all.Given as goal

abbrev pub invariant-loop-number : goal.invariant-loop-number
invariant-loop-number g l =
    AreSeatedUpTo l.self l.parts l.workers l.number l.initial.stops.items l.stops.items l.initial.owners.items l.owners.items (rows_of l.initial.rows) (rows_of l.rows) l.seats.items

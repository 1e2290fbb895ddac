use Rattle.fold_steal.proofs.cutting.+cut_stops.Given as goal

abbrev pub decreases-cut_stops : goal.decreases-cut_stops
decreases-cut_stops l = l.many

use Rattle.fold_steal.proofs.cutting.+cut_ends.Given as goal

abbrev pub decreases-cut_ends : goal.decreases-cut_ends
decreases-cut_ends l = l.many

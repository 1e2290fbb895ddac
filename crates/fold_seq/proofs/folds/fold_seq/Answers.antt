use Rattle.fold_seq.proofs.folds.fold_seq.Goals as goal

pub run_part-requires : goal.run_part-requires
run_part-requires g c =
    let node = rw c.in-Some.is at c.whole.ensures.node in
    (0, rw (← c.shape.ensures) (node 0))

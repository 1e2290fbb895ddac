use Rattle.std.proofs.Common.{inr}
use Rattle.fold_seq.proofs.folds.combine_going.Goals as goal

pub merge-requires-in-Stopped : goal.merge-requires-in-Stopped
merge-requires-in-Stopped g c =
    let right = rw c.in-Stopped.is at c.requires.5 in
    (c.requires.0, c.requires.1, c.requires.2, c.requires.3, c.requires.4, inr (c.in-Stopped.at, c.in-Stopped.line, right))

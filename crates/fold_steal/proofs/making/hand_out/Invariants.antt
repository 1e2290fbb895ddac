use Rattle.std.proofs.Common.{◌≡◌, ◌++◌, take, drop}
use Rattle.std.specs.Vec.{vec_len}
use Rattle.fold_steal.specs.Deals.{push_column}
use Rattle.fold_steal.specs.Joins.{rows_of}
use Rattle.fold_steal.proofs.making.hand_out.Given as goal

-- the first rows have an end more, and the ends for the others are left
abbrev pub invariant-loop-k : goal.invariant-loop-k
invariant-loop-k l =
    (rows_of l.rows ≡ take l.k (push_column (rows_of l.initial.rows) l.initial.ends.items) ++ drop l.k (rows_of l.initial.rows))
    × (l.ends.items ≡ drop l.k l.initial.ends.items)
    × (vec_len l.rows ≡ vec_len l.initial.rows)

use Rattle.std.proofs.Common.{◌≡◌, [], List, length}
use Rattle.std.specs.List.{AllByRecursion}
use Rattle.part_deque.specs.Ends.{ThiefEnd}
use Rattle.fold_steal.specs.Joins.{rows_of}
use Rattle.fold_steal.proofs.making.empty_rows.Given as goal

abbrev pub invariant-loop : goal.invariant-loop
invariant-loop l = AllByRecursion (λ (row : List ThiefEnd). row ≡ []) (rows_of l.rows) × (length (rows_of l.rows) ≡ l.counter)

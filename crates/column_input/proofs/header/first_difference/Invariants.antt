use Rattle.std.proofs.Common.{◌≡◌, ◌+◌, drop}
use Rattle.csv.specs.Records.{fields_of}
use Rattle.column_input.specs.Refusals.{difference_from}
use Rattle.column_input.proofs.header.first_difference.Given as goal

abbrev pub invariant-loop-place : goal.invariant-loop-place
invariant-loop-place l =
    difference_from 1 (fields_of l.names) (fields_of l.fields) ≡ difference_from (l.place + 1) (drop l.place (fields_of l.names)) (drop l.place (fields_of l.fields))

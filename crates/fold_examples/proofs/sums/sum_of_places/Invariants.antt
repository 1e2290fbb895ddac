use Rattle.std.proofs.Common.{◌≡◌, ◌-◌}
use Rattle.fold_examples.specs.Sums.{sum_of_places}
use Rattle.fold_examples.proofs.sums.sum_of_places.Given as goal

abbrev pub invariant-loop-place : goal.invariant-loop-place
invariant-loop-place l = l.total ≡ sum_of_places l.first (l.place - l.first)

use Rattle.std.proofs.Common.{◌≡◌, ◌-◌, ◌%◌, ◌^◌}
use Rattle.fold_examples.specs.Carried.{run_sum, left_by}
use Rattle.fold_examples.proofs.carried.PlaceLoop.run.Given as goal

abbrev pub invariant-loop-place : goal.invariant-loop-place
invariant-loop-place l =
    (l.total ≡ run_sum l.self.carries l.first (l.place - l.first) % 2 ^ 64) × (l.left ≡ left_by l.first (l.place - l.first))

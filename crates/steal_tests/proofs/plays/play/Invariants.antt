use Rattle.std.proofs.Common.{◌≡◌, ◌≤◌}
use Rattle.std.specs.List.{All}
use Rattle.fold_steal.specs.Crews.{all_fixed}
use Rattle.fold_steal.specs.Working.{MayTurn}
use Rattle.steal_tests.proofs.plays.play.Given as goal

abbrev pub invariant-loop-number : goal.invariant-loop-number
invariant-loop-number g l =
    (all_fixed l.seats.items ≡ all_fixed l.initial.seats.items)
    × All (MayTurn l.crew (g.J.Job.stands l.job)) l.seats.items
    × (l.right ≤ l.number-index)

use Rattle.std.proofs.Common.{◌≡◌, ◌++◌}
use Rattle.tower_inputs.proofs.types.joined.Given as goal

abbrev pub invariant-loop-kind : goal.invariant-loop-kind
invariant-loop-kind l = l.left ≡ l.fn.left ++ l.yielded

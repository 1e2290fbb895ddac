use Rattle.std.proofs.Common.{◌≡◌}
use Rattle.loop_exprs.proofs.leaves.parts.Given as goal

-- the parts so far were taken over
abbrev pub invariant-loop-part : goal.invariant-loop-part
invariant-loop-part l = l.parts ≡ l.yielded

use Rattle.std.proofs.Common.{◌≡◌, drop}
use Rattle.legality_lines.specs.HeadChecks.{inner_checked}
use Rattle.legality_lines.proofs.head.check_inner.Given as goal

-- the heads to come do the rest of the check
abbrev pub invariant-loop-head : goal.invariant-loop-head
invariant-loop-head l = inner_checked l.reducers l.line (drop l.head-index l.heads) l.state ≡ inner_checked l.reducers l.line l.heads l.initial.state

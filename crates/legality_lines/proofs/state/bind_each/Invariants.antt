use Rattle.std.proofs.Common.{◌≡◌, drop}
use Rattle.legality_lines.specs.States.{with_each}
use Rattle.legality_lines.proofs.state.bind_each.Given as goal

-- the names to come do the rest
abbrev pub invariant-loop-i : goal.invariant-loop-i
invariant-loop-i l = with_each l.sort (drop l.i l.names) (drop l.i l.kinds) l.state ≡ with_each l.sort l.names l.kinds l.initial.state

use Rattle.std.proofs.Common.{◌≡◌, drop}
use Rattle.legality_lines.specs.Walks.{bindings_checked}
use Rattle.legality_lines.proofs.walk.check_bindings.Given as goal

-- the lines to come do the rest of the check
abbrev pub invariant-loop-binding : goal.invariant-loop-binding
invariant-loop-binding l = bindings_checked l.sort (drop l.binding-index l.bindings) l.state ≡ bindings_checked l.sort l.bindings l.initial.state

use Rattle.std.proofs.Common.{◌≡◌, ◌++◌, map, drop}
use Rattle.legality_rules.specs.Scopes.{axis_kind}
use Rattle.legality_kinds.proofs.kinds.axis_kinds.Given as goal

-- with the kinds of the axes to come, these are all
abbrev pub invariant-loop-axis : goal.invariant-loop-axis
invariant-loop-axis l = l.kinds ++ map axis_kind (drop l.axis-index l.axes) ≡ map axis_kind l.axes

use Rattle.std.proofs.Common.{◌≡◌, ◌++◌, drop}
use Rattle.std.specs.Prelude.{flat_map}
use Rattle.legality_rules.specs.Lines.{axis_bounds}
use Rattle.legality_names.proofs.reads.first_bounds.Given as goal

-- with the bounds in the axes to come, these are all
abbrev pub invariant-loop-axis : goal.invariant-loop-axis
invariant-loop-axis l = l.bounds ++ flat_map axis_bounds (drop l.axis-index l.axes) ≡ flat_map axis_bounds l.axes

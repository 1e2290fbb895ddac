use Rattle.std.proofs.Common.{◌≡◌, ◌++◌, List, map, drop}
use Rattle.std.specs.Prelude.{flat_map}
use Rattle.loop_data.specs.declared.expr.Expr.{Expr}
use Rattle.legality_rules.specs.Lines.{axis_bounds}
use Rattle.legality_names.proofs.reads.+push_axis_bounds.Given as goal

-- with the bounds in the parts to come, these are all
abbrev pub invariant-loop-part : goal.invariant-loop-part
invariant-loop-part l = l.bounds ++ flat_map (λ (part : List Expr). part) (map axis_bounds (drop l.part-index l.part-items)) ≡ l.initial.bounds ++ flat_map (λ (part : List Expr). part) (map axis_bounds l.part-items)

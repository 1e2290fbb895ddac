use Rattle.std.proofs.Common.{◌≡◌, drop, map, []}
use Rattle.std.specs.FinMap as map
use Rattle.loop_values.specs.Values.{value_of, part_values}
use Rattle.loop_values.proofs.values.+eval.Given as goal

-- the values so far, followed by those of the parts that are left, are the tuple's
abbrev pub invariant-look-loop-part : goal.invariant-look-loop-part
invariant-look-loop-part l = part_values l.values (map value_of (drop l.part-index l.part-items)) (map.get l.env) ≡ part_values [] (map value_of l.part-items) (map.get l.env)

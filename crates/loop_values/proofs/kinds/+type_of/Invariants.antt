use Rattle.std.proofs.Common.{◌≡◌, drop, map, []}
use Rattle.std.specs.FinMap as map
use Rattle.loop_values.specs.Kinds.{kind_of, part_kinds}
use Rattle.loop_values.proofs.kinds.+type_of.Given as goal

abbrev pub invariant-loop-part : goal.invariant-loop-part
invariant-loop-part l = part_kinds l.kinds (map kind_of (drop l.part-index l.part-items)) (map.get l.names) ≡ part_kinds [] (map kind_of l.part-items) (map.get l.names)

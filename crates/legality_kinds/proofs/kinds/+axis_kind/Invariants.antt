use Rattle.std.proofs.Common.{◌≡◌, ◌++◌, map, drop}
use Rattle.legality_rules.specs.Scopes.{axis_kind}
use Rattle.legality_kinds.proofs.kinds.+axis_kind.Given as goal

-- with the kinds of the parts to come, these are all
abbrev pub invariant-loop-part : goal.invariant-loop-part
invariant-loop-part l = l.kinds ++ map axis_kind (drop l.part-index l.part-items) ≡ map axis_kind l.part-items

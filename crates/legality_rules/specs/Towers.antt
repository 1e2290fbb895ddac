-- Where `from` may follow a tower, and the kinds of a tower's inputs where each of its expressions has one that it takes.
-- Source: this project's language.
use Rattle.std.specs.Prelude.{Bool, true, false, not, List, Option, Some, None, Ok, Err}
use Rattle.loop_data.specs.declared.value.ValueKind.{ValueKind}
use Rattle.loop_data.specs.declared.tower.Kind.{Kind, out-Kind}
use Rattle.loop_data.specs.declared.tower.Kind.TheOpen.{Kind-F, Kind-F as k}
use Rattle.loop_data.specs.declared.tower.TowerExpr.{TowerExpr}
use Rattle.loop_values.specs.Kinds.{Kinds}
use Rattle.tower_inputs.specs.InputKinds.{InputKinds, kinds_of_input, same_kinds}

abbrev pub takes_start_at : Kind-F Kind → Bool
takes_start_at k.Count = false
takes_start_at k.LeastAt = false
takes_start_at k.GreatestAt = false
takes_start_at (k.Grouped inner) = false
takes_start_at (k.Both left right) = false
takes_start_at _ = true

-- whether `from` may follow a tower of this kind: not `count`, `argmin`, `argmax`, `group` or `both`
abbrev pub takes_start : Kind → Bool
takes_start x = takes_start_at (out-Kind x)

-- the kinds of a tower's expressions from left to right, where each has a kind that may stand there
abbrev pub Inputs : Type 0
Inputs = Option (List ValueKind)

abbrev pub where_given : InputKinds → Inputs
where_given (Ok xs) = Some xs
where_given (Err stop) = None

abbrev pub input_kinds : TowerExpr → Kinds → Inputs
input_kinds tower names = where_given (kinds_of_input tower names)

-- inputs of other kinds: both have kinds, which aren't the same. Where one of them has none there is nothing to compare
abbrev pub inputs_differ : Inputs → Inputs → Bool
inputs_differ (Some xs) (Some ys) = not (same_kinds xs ys)
inputs_differ _ _ = false

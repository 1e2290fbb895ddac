-- The kinds of a tower's expressions under the kinds of their names, where each is such as the tower takes; or that one isn't.
-- Source: this project.
use Rattle.std.specs.Prelude.{Bool, true, false, ◌||◌, not, List, [], ◌∷◌, ◌++◌, map, Result, Ok, Err}
use Rattle.loop_data.specs.declared.value.ValueKind.{ValueKind}
use Rattle.loop_data.specs.declared.tower.Kind.{Kind, out-Kind}
use Rattle.loop_data.specs.declared.tower.Kind.TheOpen.{Kind-F, Kind-F as k}
use Rattle.loop_data.specs.declared.tower.TowerExpr.{TowerExpr}
use Rattle.loop_data.specs.declared.tower.TowerExpr.TheOpen.{TowerExpr-F, TowerExpr-F as t}
use Rattle.loop_data.specs.declared.tower.TowerExpr.TheFolds.{fold-TowerExpr}
use Rattle.loop_values.specs.declared.stop.TypeStop.{TypeStop}
use Rattle.loop_values.specs.declared.stop.TypeStop.TheVariants.{Differs}
use Rattle.loop_values.specs.Kinds.{Kinds, Kinded, is_bool, is_int, is_maybe, is_text, kind_of, same_all, same_kind}

abbrev pub takes_at : Kind-F Kind → ValueKind → Bool
takes_at k.Sum x = is_int x
takes_at k.Prod x = is_int x
takes_at k.Least x = is_int x || is_text x
takes_at k.Greatest x = is_int x || is_text x
takes_at k.LeastAt x = is_int x || is_text x
takes_at k.GreatestAt x = is_int x || is_text x
takes_at k.Any x = is_bool x
takes_at k.All x = is_bool x
takes_at k.First x = not (is_maybe x)
takes_at k.Last x = not (is_maybe x)
takes_at k.Listed x = not (is_maybe x)
takes_at _ x = false

-- whether a tower of one expression takes values of this kind: `sum` and `prod` Int; `min`, `max`, `argmin` and `argmax` Int or
-- Text; `any` and `all` Bool; `first`, `last` and `list` any kind but Maybe. The other towers have no expression of that place
abbrev pub takes : Kind → ValueKind → Bool
takes leaf x = takes_at (out-Kind leaf) x

-- the kinds of a tower's expressions from left to right
abbrev pub InputKinds : Type 0
InputKinds = Result (List ValueKind) TypeStop

-- a kind, where it is such as is taken
abbrev pub one_kind : Bool → ValueKind → InputKinds
one_kind true x = Ok (x ∷ [])
one_kind false x = Err Differs

-- one expression, whose kind has to pass the test
abbrev pub kind_that : (ValueKind → Bool) → Kinded → InputKinds
kind_that test (Ok x) = one_kind (test x) x
kind_that test (Err stop) = Err stop

abbrev pub followed_by : List ValueKind → InputKinds → InputKinds
followed_by xs (Ok ys) = Ok (xs ++ ys)
followed_by xs (Err stop) = Err stop

abbrev pub both_kinds : InputKinds → InputKinds → InputKinds
both_kinds (Ok xs) r = followed_by xs r
both_kinds (Err stop) r = Err stop

-- one layer of a tower, given the kinds of its inner towers' expressions
abbrev pub input_kinds_step : TowerExpr-F (Kinds → InputKinds) → Kinds → InputKinds
input_kinds_step (t.Leaf leaf x) names = kind_that (takes leaf) (kind_of x names)
input_kinds_step t.Count names = Ok []
input_kinds_step (t.Grouped key inner) names = both_kinds (kind_that is_text (kind_of key names)) (inner names)
input_kinds_step (t.Both left right) names = both_kinds (left names) (right names)

abbrev pub kinds_of_input : TowerExpr → Kinds → InputKinds
kinds_of_input = fold-TowerExpr (Kinds → InputKinds) input_kinds_step

-- whether two lists of kinds are one
abbrev pub same_kinds : List ValueKind → List ValueKind → Bool
same_kinds xs ys = same_all (map same_kind xs) ys

-- The kind of a tower, its expressions aside, whether two kinds of tower are one, and the names that a tower asks for.
-- Source: this project.
use Rattle.std.specs.Prelude.{ℕ, Bool, true, false, ◌&&◌, if◌then◌else◌, List, [], ◌∷◌, ◌++◌}
use Rattle.loop_data.specs.declared.tower.Kind.{Kind, out-Kind}
use Rattle.loop_data.specs.declared.tower.Kind.TheVariants as kind
use Rattle.loop_data.specs.declared.tower.Kind.TheOpen.{Kind-F, Kind-F as k}
use Rattle.loop_data.specs.declared.tower.Kind.TheFolds.{fold-Kind}
use Rattle.loop_data.specs.declared.tower.TowerExpr.{TowerExpr}
use Rattle.loop_data.specs.declared.tower.TowerExpr.TheOpen.{TowerExpr-F, TowerExpr-F as t}
use Rattle.loop_data.specs.declared.tower.TowerExpr.TheFolds.{fold-TowerExpr}
use Rattle.loop_values.specs.Bindings.{place_name}
use Rattle.loop_values.specs.NamesIn.{names_in, names_read}

-- one layer of a tower, given the kinds of its inner towers
abbrev pub tower_step : TowerExpr-F Kind → Kind
tower_step (t.Leaf leaf x) = leaf
tower_step t.Count = kind.Count
tower_step (t.Grouped key inner) = kind.Grouped inner
tower_step (t.Both left right) = kind.Both left right

-- the kind of a tower, its expressions aside
abbrev pub kind_of_tower : TowerExpr → Kind
kind_of_tower = fold-TowerExpr Kind tower_step

-- ---- equal kinds of tower

abbrev pub same_at : Kind-F (Kind → Bool) → Kind-F Kind → Bool
same_at k.Sum k.Sum = true
same_at k.Prod k.Prod = true
same_at k.Count k.Count = true
same_at k.Least k.Least = true
same_at k.Greatest k.Greatest = true
same_at k.LeastAt k.LeastAt = true
same_at k.GreatestAt k.GreatestAt = true
same_at k.First k.First = true
same_at k.Last k.Last = true
same_at k.Any k.Any = true
same_at k.All k.All = true
same_at k.Listed k.Listed = true
same_at (k.Grouped f) (k.Grouped inner) = f inner
same_at (k.Both f g) (k.Both left right) = f left && g right
same_at _ _ = false

abbrev pub same_step : Kind-F (Kind → Bool) → Kind → Bool
same_step f other = same_at f (out-Kind other)

-- whether two kinds of tower are one, down their trees
abbrev pub same_tower : Kind → Kind → Bool
same_tower = fold-Kind (Kind → Bool) same_step

-- ---- names

abbrev pub with_place_at : Kind-F Kind → Bool
with_place_at k.LeastAt = true
with_place_at k.GreatestAt = true
with_place_at _ = false

-- `argmin` and `argmax`, whose inputs have the place of the item with them
abbrev pub with_place : Kind → Bool
with_place x = with_place_at (out-Kind x)

-- one layer of a tower, given the names that its inner towers ask for
abbrev pub tower_names_step : TowerExpr-F (List (List ℕ)) → List (List ℕ)
tower_names_step (t.Leaf leaf x) = names_in x ++ (if with_place leaf then place_name ∷ [] else [])
tower_names_step t.Count = []
tower_names_step (t.Grouped key inner) = names_in key ++ inner
tower_names_step (t.Both left right) = left ++ right

-- the names whose values a tower's input asks for, from left to right, `place` among them
abbrev pub names_in_tower : TowerExpr → List (List ℕ)
names_in_tower = fold-TowerExpr (List (List ℕ)) tower_names_step

-- one layer of a tower, given the names that its inner towers read
abbrev pub tower_read_step : TowerExpr-F (List (List ℕ)) → List (List ℕ)
tower_read_step (t.Leaf leaf x) = names_read x
tower_read_step t.Count = []
tower_read_step (t.Grouped key inner) = names_read key ++ inner
tower_read_step (t.Both left right) = left ++ right

-- the names that a tower reads, from left to right. `place` is none of them: no line binds it
abbrev pub names_read_in_tower : TowerExpr → List (List ℕ)
names_read_in_tower = fold-TowerExpr (List (List ℕ)) tower_read_step

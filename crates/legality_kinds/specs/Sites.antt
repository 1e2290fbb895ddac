-- What the rules ask of an `@reduce` line and of the first of its name. Internal: the rules are defined in the crate
-- legality_rules. Source: this project's language.
use Rattle.std.specs.Prelude.{ℕ, Bool, false, not, ◌&&◌, List, [], ◌∷◌, filter, is_some, Option, Some, None}
use Rattle.std.specs.Str.{bytes_eq}
use Rattle.loop_data.specs.declared.value.ValueKind.{ValueKind}
use Rattle.loop_data.specs.declared.tower.Kind.{Kind}
use Rattle.loop_data.specs.declared.tower.TowerExpr.{TowerExpr}
use Rattle.loop_values.specs.Kinds.{Kinds}
use Rattle.tower_inputs.specs.InputKinds.{same_kinds}
use Rattle.tower_inputs.specs.Towers.{kind_of_tower}
use Rattle.legality_rules.specs.declared.scope.Site.{Site}
use Rattle.legality_rules.specs.Towers.{input_kinds, takes_start}
use Rattle.legality_rules.specs.Rules.{site_differs}

-- what an `@reduce` line reduces into
abbrev pub site_of : List ℕ → TowerExpr → Kinds → Site
site_of n tower kinds = record { name = n; tower = kind_of_tower tower; inputs = input_kinds tower kinds }

abbrev pub first_of : List Site → Option Site
first_of [] = None
first_of (site ∷ _) = Some site

-- the first `@reduce` line of the name
abbrev pub first_site : List ℕ → List Site → Option Site
first_site n sites = first_of (filter (λ site. bytes_eq n site.name) sites)

-- whether it has another tower, or inputs of other kinds, than the first line of its name
abbrev pub is_other : Site → Option Site → Bool
is_other site None = false
is_other site (Some first) = site_differs site first

abbrev pub may_start : Option Site → Kind → Bool
may_start first kind = not (is_some first) && takes_start kind

abbrev pub is_only_kind : ValueKind → List ValueKind → Bool
is_only_kind x xs = same_kinds (x ∷ []) xs

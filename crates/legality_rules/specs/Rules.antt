-- The ten rules of a legal loop: for each, the names at which an entry of a program breaks it, from left to right.
-- Source: this project's language.
use Rattle.std.specs.Prelude.{ℕ, ◌==◌, Bool, true, false, not, ◌&&◌, ◌||◌, if◌then◌else◌, List, [], ◌∷◌, ◌++◌, map, length}
use Rattle.std.specs.Prelude.{filter, flat_map, codes, Option, Some, None, Ok, Err}
use Rattle.std.specs.List.{list_all}
use Rattle.std.specs.Str.{bytes_eq}
use Rattle.loop_data.specs.declared.value.Value.{Value}
use Rattle.loop_data.specs.declared.value.ValueKind.{ValueKind}
use Rattle.loop_data.specs.declared.expr.Expr.{Expr, out-Expr}
use Rattle.loop_data.specs.declared.expr.Expr.TheOpen.{Expr-F, Expr-F as e}
use Rattle.loop_data.specs.declared.tower.TowerExpr.{TowerExpr}
use Rattle.loop_grammar.specs.declared.tree.ProgramTree.{ProgramTree}
use Rattle.loop_values.specs.Kinds.{Kinded, is_int, is_bool, is_maybe, same_kind, kind_of, literal_kind}
use Rattle.legality_rules.specs.declared.scope.Sort.{Sort}
use Rattle.legality_rules.specs.declared.scope.Site.{Site}
use Rattle.legality_rules.specs.Scopes.{Scope, is_in, is_known, sort_in, is_variable, is_loop_variable, is_scratch, kinds_in}
use Rattle.legality_rules.specs.Scopes.{fits_pattern, item_kind}
use Rattle.tower_inputs.specs.Inputs.{most_sites}
use Rattle.tower_inputs.specs.Towers.{kind_of_tower, same_tower}
use Rattle.tower_inputs.specs.InputKinds.{same_kinds}
use Rattle.legality_rules.specs.Towers.{takes_start, Inputs, input_kinds, inputs_differ}
use Rattle.legality_rules.specs.Lines.{Form, Entry, first_head, inner_head, let_line, set_line, condition, keep_line}
use Rattle.legality_rules.specs.Lines.{reduce_line, bound, read, assigned, reduced, printed, range_bounds, axis_bounds}
use Rattle.legality_rules.specs.Lines.{entries_of}
use Rattle.legality_rules.specs.Paths.{Path, is_reached, paths_of}

-- what the rules look at: the entries of all lines, and the paths of a body run
pub record Outline : Type 0 where
  pub entries : List Entry
  pub paths : List Path

abbrev pub outline_of : ProgramTree → Outline
outline_of program = record { entries = entries_of program; paths = paths_of program }

-- an entry with those before it
pub record Spot : Type 0 where
  pub earlier : List Entry
  pub here : Entry

-- the names at which an entry breaks a rule
abbrev pub Rule : Type 0
Rule = Outline → Spot → List (List ℕ)

-- ---- names

-- a name is a reducer where any line reduces into it
abbrev pub is_reducer : Outline → List ℕ → Bool
is_reducer outline n = is_in (flat_map (λ entry. reduced entry.says) outline.entries) n

-- whether some line assigns the name
abbrev pub is_assigned : Outline → List ℕ → Bool
is_assigned outline n = is_in (flat_map (λ entry. assigned entry.says) outline.entries) n

-- what a name is in scope as, where it is in scope
abbrev pub sort_at : Spot → List ℕ → Option Sort
sort_at spot n = sort_in spot.here.scope n

-- the name that an entry assigns, and those that it reads
abbrev pub used : Form → List (List ℕ)
used form = assigned form ++ read form

-- 1: it reads or assigns a name that isn't a reducer and isn't in scope, or prints a name that isn't a reducer
abbrev pub unknown_names : Rule
unknown_names outline spot =
    filter (λ n. not (is_reducer outline n) && not (is_known spot.here.scope n)) (used spot.here.says)
    ++ filter (λ n. not (is_reducer outline n)) (printed spot.here.says)

-- those of the names that stand among `before`, or left of themselves in the list
abbrev pub repeated : List (List ℕ) → List (List ℕ) → List (List ℕ)
repeated before [] = []
repeated before (n ∷ ns) = (if is_in before n then n ∷ [] else []) ++ repeated (before ++ n ∷ []) ns

abbrev pub bound_by : List Entry → List (List ℕ)
bound_by entries = flat_map (λ entry. bound entry.says) entries

abbrev pub reduced_by : List Entry → List (List ℕ)
reduced_by entries = flat_map (λ entry. reduced entry.says) entries

-- 2: it binds a name that an earlier line or an earlier place of the line binds, unless both are `@reduce` lines; or it assigns
-- a loop variable
abbrev pub names_bound_twice : Rule
names_bound_twice outline spot =
    repeated (bound_by spot.earlier ++ reduced_by spot.earlier) (bound spot.here.says)
    ++ filter (is_in (bound_by spot.earlier)) (reduced spot.here.says)
    ++ filter (λ n. is_loop_variable (sort_at spot n)) (assigned spot.here.says)

-- 3: it assigns an outer variable
abbrev pub carried_variables : Rule
carried_variables outline spot = filter (λ n. is_variable (sort_at spot n)) (assigned spot.here.says)

-- 4: it reads a scratch that some line assigns, and some path of a body run reaches this read without an assignment of that
-- scratch before it
abbrev pub carried_scratches : Rule
carried_scratches outline spot =
    filter (λ n. is_scratch (sort_at spot n) && is_assigned outline n && is_reached outline.paths spot.here.line n)
    (read spot.here.says)

-- 5: it reads a reducer in an expression, or assigns it
abbrev pub reducers_used : Rule
reducers_used outline spot = filter (is_reducer outline) (used spot.here.says)

-- ---- towers

-- the name, the kind of the tower and the kinds of the inputs of an `@reduce` line
abbrev pub site_at : Scope → Form → List Site
site_at scope (reduce_line n tower start) =
    record { name = n; tower = kind_of_tower tower; inputs = input_kinds tower (kinds_in scope) } ∷ []
site_at scope _ = []

-- the `@reduce` lines among these
abbrev pub sites_in : List Entry → List Site
sites_in entries = flat_map (λ entry. site_at entry.scope entry.says) entries

-- those that reduce into the name, in order
abbrev pub sites_of : List ℕ → List Entry → List Site
sites_of n entries = filter (λ site. bytes_eq n site.name) (sites_in entries)

-- another tower, or inputs of other kinds
abbrev pub site_differs : Site → Site → Bool
site_differs site first = not (same_tower site.tower first.tower) || inputs_differ site.inputs first.inputs

abbrev pub differs_from_first : Site → List Site → Bool
differs_from_first site [] = false
differs_from_first site (first ∷ _) = site_differs site first

-- 6: it has another tower, or other input kinds, than the first `@reduce` line of its name
abbrev pub reducers_with_other_towers : Rule
reducers_with_other_towers outline spot =
    map (λ site. site.name)
    (filter (λ site. differs_from_first site (sites_of site.name spot.earlier)) (site_at spot.here.scope spot.here.says))

-- ---- start values

abbrev pub is_none : List Site → Bool
is_none [] = true
is_none (_ ∷ _) = false

-- `from` may stand on the first line of its name, and not on `count`, `argmin`, `argmax`, `group` or `both`
abbrev pub may_start : Spot → List ℕ → TowerExpr → Bool
may_start spot n tower = is_none (sites_of n spot.earlier) && takes_start (kind_of_tower tower)

abbrev pub starts_refused : Spot → Form → List (List ℕ)
starts_refused spot (reduce_line n tower (Some start)) = if may_start spot n tower then [] else n ∷ []
starts_refused spot _ = []

-- 8: `from` stands where it may not
abbrev pub starts_not_allowed : Rule
starts_not_allowed outline spot = starts_refused spot spot.here.says

-- ---- kinds

abbrev pub passes : (ValueKind → Bool) → Kinded → Bool
passes test (Ok x) = test x
passes test (Err stop) = false

-- whether the expression has a kind here that passes the test
abbrev pub has_kind : Spot → (ValueKind → Bool) → Expr → Bool
has_kind spot test x = passes test (kind_of x (kinds_in spot.here.scope))

abbrev pub is_of : Option ValueKind → ValueKind → Bool
is_of (Some x) y = same_kind x y
is_of None y = false

abbrev pub items_fit : List (List ℕ) → Option ValueKind → Bool
items_fit names (Some x) = fits_pattern names x
items_fit names None = false

-- whether each expression of a tower has a kind that may stand there, and the start value, where there is one, the input's kind
abbrev pub inputs_fit : Option Value → Inputs → Bool
inputs_fit (Some start) (Some xs) = passes (λ x. same_kinds (x ∷ []) xs) (literal_kind start)
inputs_fit None (Some xs) = true
inputs_fit start None = false

-- a start value where it may stand
abbrev pub allowed : Option Value → Bool → Option Value
allowed None may = None
allowed (Some start) may = if may then Some start else None

-- whether what an entry says keeps to the kinds: bounds are Int and the pattern takes the items; an assigned value has the
-- name's kind; a condition is Bool; a kept value is Maybe; inputs and the start value are such as the tower takes
abbrev pub keeps_kinds : Spot → Form → Bool
keeps_kinds spot (first_head names axes product) =
    list_all (has_kind spot is_int) (flat_map axis_bounds axes) && items_fit names (item_kind product axes)
keeps_kinds spot (inner_head n range) = list_all (has_kind spot is_int) (range_bounds range)
keeps_kinds spot (let_line names x) = has_kind spot (fits_pattern names) x
keeps_kinds spot (set_line n x) = has_kind spot (is_of (kinds_in spot.here.scope n)) x
keeps_kinds spot (condition x) = has_kind spot is_bool x
keeps_kinds spot (keep_line n x) = has_kind spot is_maybe x
keeps_kinds spot (reduce_line n tower start) =
    inputs_fit (allowed start (may_start spot n tower)) (input_kinds tower (kinds_in spot.here.scope))
keeps_kinds spot _ = true

-- 7: an expression, pattern, condition, bound, input or start value has a wrong kind. An expression with an unknown name or a
-- reducer needs no look: the rules 1 and 5 come before this one
abbrev pub types_differ : Rule
types_differ outline spot = if keeps_kinds spot spot.here.says then [] else spot.here.called ∷ []

-- ---- the head, and the count of `@reduce` lines

abbrev pub is_splittable_at : Spot → Expr-F Expr → Bool
is_splittable_at spot (e.Lit v) = true
is_splittable_at spot (e.Name n) = is_variable (sort_at spot n)
is_splittable_at spot _ = false

-- a literal or an outer variable
abbrev pub is_splittable : Spot → Expr → Bool
is_splittable spot x = is_splittable_at spot (out-Expr x)

abbrev pub first_bounds : Form → List Expr
first_bounds (first_head names axes product) = flat_map axis_bounds axes
first_bounds _ = []

-- 9: a bound of a range in the first head is neither a literal nor an outer variable; the name is `for`
abbrev pub heads_not_splittable : Rule
heads_not_splittable outline spot = if list_all (is_splittable spot) (first_bounds spot.here.says) then [] else codes "for" ∷ []

-- 10: it is the 65th `@reduce` line
abbrev pub sites_too_many : Rule
sites_too_many outline spot = filter (λ n. length (sites_in spot.earlier) == most_sites) (reduced spot.here.says)

-- ---- all of them

-- the rules with their numbers
abbrev pub rules : List (ℕ × Rule)
rules =
    (1, unknown_names)
    ∷ (2, names_bound_twice)
    ∷ (3, carried_variables)
    ∷ (4, carried_scratches)
    ∷ (5, reducers_used)
    ∷ (6, reducers_with_other_towers)
    ∷ (7, types_differ)
    ∷ (8, starts_not_allowed)
    ∷ (9, heads_not_splittable)
    ∷ (10, sites_too_many)
    ∷ []

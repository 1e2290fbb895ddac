-- What the check of the `for` line answers, told the reducers of the program and the state before the line. Internal.
-- Source: this project's language.
use Rattle.std.specs.Prelude.{ℕ, Bool, ◌&&◌, List, [], ◌∷◌, flat_map, filter, codes, Option, Some, Result, Ok}
use Rattle.std.specs.List.{list_all}
use Rattle.std.specs.FinMap.{get}
use Rattle.loop_data.specs.declared.value.ValueKind.{ValueKind}
use Rattle.loop_data.specs.declared.value.ValueKind.TheVariants as kind
use Rattle.loop_data.specs.declared.expr.Expr.{Expr}
use Rattle.loop_data.specs.declared.head.HeadLine.{HeadLine}
use Rattle.loop_data.specs.declared.head.Inner.{Inner}
use Rattle.loop_values.specs.Kinds.{Kinds, is_int, kind_of}
use Rattle.loop_values.specs.NamesIn.{names_read}
use Rattle.legality_rules.specs.declared.refusal.LegalRefusal.{LegalRefusal}
use Rattle.legality_rules.specs.declared.scope.Sort.TheVariants.{LoopVariable}
use Rattle.legality_rules.specs.Scopes.{is_in, item_kind, pattern_kinds}
use Rattle.legality_rules.specs.Lines.{axis_bounds, first_name, range_bounds}
use Rattle.legality_rules.specs.Rules.{items_fit, passes, repeated}
use Rattle.legality_lines.specs.declared.state.State.{State}
use Rattle.legality_names.specs.Answers.{answer, illegal, leftmost, named, and_then}
use Rattle.legality_lines.specs.Kinds.{is_splittable_in}
use Rattle.legality_lines.specs.LineChecks.{Checked, only_if}
use Rattle.legality_names.specs.Names.{head_names, taken, unknown}
use Rattle.legality_lines.specs.States.{with_each, with_name}

-- after the first head's pattern, told the kind of the items
abbrev pub with_pattern : List (List ℕ) → Option ValueKind → State → State
with_pattern names k state = with_each LoopVariable names (pattern_kinds names k) state

-- an inner head, whose bounds read names in scope alone
abbrev pub one_inner_checked : List (List ℕ) → ℕ → Inner → State → Checked
one_inner_checked reducers line i state =
    and_then (answer (named 1 line (leftmost (unknown reducers state.scope (flat_map names_read (range_bounds i.range)))))) (λ _.
    Ok (with_name LoopVariable i.name (Some kind.Int) state))

abbrev pub inner_checked : List (List ℕ) → ℕ → List Inner → State → Checked
inner_checked reducers line [] state = Ok state
inner_checked reducers line (i ∷ is) state = and_then (one_inner_checked reducers line i state) (inner_checked reducers line is)

-- the bounds of the first head, and those of the inner heads
abbrev pub bounds_of_first : HeadLine → List Expr
bounds_of_first h = flat_map axis_bounds h.axes

abbrev pub bounds_of_inner : HeadLine → List Expr
bounds_of_inner h = flat_map (λ (i : Inner). range_bounds i.range) h.inner

abbrev pub are_ints : Kinds → List Expr → Bool
are_ints kinds xs = list_all (λ x. passes is_int (kind_of x kinds)) xs

abbrev pub keeps_kinds : Bool → List Expr → List Expr → Kinds → Bool
keeps_kinds fits first inner kinds = fits && are_ints kinds first && are_ints kinds inner

-- the reducers among the names that bounds read
abbrev pub reducers_in : List (List ℕ) → List Expr → List (List ℕ)
reducers_in reducers bounds = filter (is_in reducers) (flat_map names_read bounds)

-- the kinds and the bounds, told whether the pattern takes the items and whether the first head can be split
abbrev pub bounds_checked : HeadLine → List Expr → List Expr → Bool → Bool → State → Checked
bounds_checked h first inner fits splittable after =
    and_then (only_if (keeps_kinds fits first inner (get after.kinds)) (illegal 7 h.line (first_name h.names))) (λ _.
    and_then (only_if splittable (illegal 9 h.line (codes "for"))) (λ _. Ok after))

abbrev pub reducers_refused : List (List ℕ) → ℕ → List Expr → Result (Unit {0}) LegalRefusal
reducers_refused reducers line bounds = answer (named 5 line (leftmost (reducers_in reducers bounds)))

abbrev pub inner_bounds_checked : List (List ℕ) → HeadLine → List Expr → Bool → Bool → State → Checked
inner_bounds_checked reducers h first fits splittable after =
    and_then (reducers_refused reducers h.line (bounds_of_inner h)) (λ _.
    bounds_checked h first (bounds_of_inner h) fits splittable after)

-- all rules behind the first, told the leftmost name that is bound twice
abbrev pub bound_head_checked : List (List ℕ) → HeadLine → Option (List ℕ) → Bool → Bool → State → Checked
bound_head_checked reducers h twice fits splittable after =
    and_then (answer (named 2 h.line twice)) (λ _.
    and_then (reducers_refused reducers h.line (bounds_of_first h)) (λ _.
    inner_bounds_checked reducers h (bounds_of_first h) fits splittable after))

abbrev pub unknown_refused : List (List ℕ) → ℕ → List Expr → State → Result (Unit {0}) LegalRefusal
unknown_refused reducers line bounds state =
    answer (named 1 line (leftmost (unknown reducers state.scope (flat_map names_read bounds))))

-- the names of all heads, told the kind of the first head's items
abbrev pub head_bound : List (List ℕ) → HeadLine → Option ValueKind → State → Checked
head_bound reducers h kind state = inner_checked reducers h.line h.inner (with_pattern h.names kind state)

-- the line without the first rule of its first head, told the bounds of that
abbrev pub known_head_checked : List (List ℕ) → HeadLine → List Expr → State → Checked
known_head_checked reducers h first state =
    and_then (head_bound reducers h (item_kind h.product h.axes) state) (λ after.
    bound_head_checked reducers h (leftmost (repeated (taken state.bound state.sites) (head_names h)))
    (items_fit h.names (item_kind h.product h.axes)) (list_all (is_splittable_in state.scope) first) after)

abbrev pub head_checked : List (List ℕ) → HeadLine → State → Checked
head_checked reducers h state =
    and_then (unknown_refused reducers h.line (bounds_of_first h) state) (λ _.
    known_head_checked reducers h (bounds_of_first h) state)

-- What the checks of lines answer, told the reducers of the program and the state before the line. Internal.
-- Source: this project's language.
use Rattle.std.specs.Prelude.{ℕ, Bool, true, false, List, [], ◌∷◌, filter, codes, Some, None, Result, Ok, Err}
use Rattle.std.specs.FinMap.{get}
use Rattle.loop_data.specs.declared.expr.Expr.{Expr}
use Rattle.loop_data.specs.declared.head.Binding.{Binding}
use Rattle.loop_data.specs.declared.head.PrintLine.{PrintLine}
use Rattle.loop_values.specs.Kinds.{is_bool, kind_of, literal_kind}
use Rattle.loop_values.specs.NamesIn.{names_read}
use Rattle.legality_rules.specs.declared.refusal.LegalRefusal.{LegalRefusal}
use Rattle.legality_rules.specs.declared.scope.Sort.{Sort}
use Rattle.legality_rules.specs.declared.scope.Sort.TheVariants.{Local}
use Rattle.legality_rules.specs.Scopes.{found, is_in, is_loop_variable, is_variable}
use Rattle.legality_rules.specs.Rules.{is_of, passes, repeated}
use Rattle.legality_lines.specs.declared.state.State.{State}
use Rattle.legality_names.specs.Answers.{answer, illegal, leftmost, named, and_then}
use Rattle.legality_names.specs.Names.{names_offence, of_sort, taken}
use Rattle.legality_lines.specs.Kinds.{kept_kind, typed_pattern}
use Rattle.legality_lines.specs.States.{with_each, with_name}

-- the state after a line, or its refusal
abbrev pub Checked : Type 0
Checked = Result State LegalRefusal

-- a line as it is, or its refusal where a test fails
abbrev pub only_if : Bool → LegalRefusal → Result (Unit {0}) LegalRefusal
only_if true e = Ok tt
only_if false e = Err e

abbrev pub let_checked : List (List ℕ) → ℕ → List (List ℕ) → Expr → State → Checked
let_checked reducers line names x state =
    and_then (answer (names_offence reducers state.scope line (names_read x)
    (leftmost (repeated (taken state.bound state.sites) names)) None)) (λ _.
    and_then (typed_pattern line names (found (kind_of x (get state.kinds)))) (λ kinds. Ok (with_each Local names kinds state)))

abbrev pub set_checked : List (List ℕ) → ℕ → List ℕ → Expr → State → Checked
set_checked reducers line n x state =
    and_then (answer (names_offence reducers state.scope line (n ∷ names_read x)
    (leftmost (of_sort is_loop_variable state.scope (n ∷ []))) (leftmost (of_sort is_variable state.scope (n ∷ []))))) (λ _.
    and_then (only_if (passes (is_of (get state.kinds n)) (kind_of x (get state.kinds))) (illegal 7 line n)) (λ _. Ok state))

-- the word before a condition
abbrev pub condition_word : Bool → List ℕ
condition_word true = codes "if"
condition_word false = codes "elseif"

abbrev pub condition_checked : List (List ℕ) → Bool → ℕ → Expr → State → Result (Unit {0}) LegalRefusal
condition_checked reducers first line x state =
    and_then (answer (names_offence reducers state.scope line (names_read x) None None)) (λ _.
    only_if (passes is_bool (kind_of x (get state.kinds))) (illegal 7 line (condition_word first)))

abbrev pub keep_checked : List (List ℕ) → ℕ → List ℕ → Expr → State → Checked
keep_checked reducers line n x state =
    and_then (answer (names_offence reducers state.scope line (names_read x)
    (leftmost (filter (is_in (taken state.bound state.sites)) (n ∷ []))) None)) (λ _.
    and_then (kept_kind line n (found (kind_of x (get state.kinds)))) (λ kind. Ok (with_name Local n (Some kind) state)))

abbrev pub binding_checked : Sort → Binding → State → Checked
binding_checked sort b state =
    and_then (answer (named 2 b.line (leftmost (filter (is_in (taken state.bound state.sites)) (b.name ∷ []))))) (λ _.
    Ok (with_name sort b.name (found (literal_kind b.value)) state))

abbrev pub print_checked : List (List ℕ) → PrintLine → Result (Unit {0}) LegalRefusal
print_checked reducers p = only_if (is_in reducers p.name) (illegal 1 p.line p.name)

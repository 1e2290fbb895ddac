-- When names, lines and body runs fit: each name in scope is bound to a value of its kind, and each emitted pair passes a test.
-- Source: this project.
use Rattle.std.specs.Prelude.{◌≡◌, ◌≢◌, ℕ, Bool, true, not, ◌&&◌, List, [], ◌∷◌, Some, Ok}
use Rattle.std.specs.List.{list_all}
use Rattle.std.specs.Str.{bytes_eq}
use Rattle.std.specs.FinMap.{get}
use Rattle.loop_data.specs.declared.value.Value.{Value}
use Rattle.loop_data.specs.declared.value.ValueKind.{ValueKind}
use Rattle.loop_data.specs.declared.expr.Expr.{Expr}
use Rattle.loop_data.specs.declared.tower.TowerExpr.{TowerExpr}
use Rattle.loop_values.specs.Bindings.{Bindings, Names, place_name}
use Rattle.loop_values.specs.Fits.{Agree}
use Rattle.loop_values.specs.Kinds.{AreWellFormed, is_bool, is_maybe, kind_of}
use Rattle.tower_inputs.specs.Inputs.{input_of}
use Rattle.tower_inputs.specs.Laws.{HasPlace}
use Rattle.legality_rules.specs.Scopes.{Scope, fits_pattern, is_known, item_kind, kinds_in}
use Rattle.legality_rules.specs.Lines.{Entry, Form, condition, first_head, init_line, inner_head, keep_line, let_line}
use Rattle.legality_rules.specs.Lines.{reduce_line, set_line, var_line}
use Rattle.legality_rules.specs.Rules.{is_of, items_fit, passes, repeated}
use Rattle.loop_meaning.specs.declared.steps.BodyRun.{BodyRun}
use Rattle.loop_meaning.specs.declared.steps.Pair.{Pair}
use Rattle.loop_meaning.specs.declared.steps.Flow.TheVariants.{Going}

-- a test of emitted pairs: whether an input may go to the reducer of that name
abbrev pub Test : Type 0
Test = Pair → Bool

-- an emitted pair: an input, for the reducer of that name
abbrev pub pair : List ℕ → Value → Pair
pair name input = record { name = name; input = input }

-- ---- names

-- each name in scope that has a kind is bound to a value that fits it
abbrev pub FitScope : Scope → Bindings → Type 0
FitScope scope names = Agree (kinds_in scope) (get names)

-- each name that has a kind in the one scope has the same kind in the other
abbrev pub Within : Scope → Scope → Type 0
Within outer scope = (n : List ℕ) (x : ValueKind) → kinds_in outer n ≡ Some x → kinds_in scope n ≡ Some x

-- whether none of the names is in scope, nor is one of them `place`
abbrev pub are_new : Scope → List (List ℕ) → Bool
are_new scope names = list_all (λ n. not (is_known scope n) && not (bytes_eq n place_name)) names

-- the names are new, and no two of them are one
pub record AreFresh (scope : Scope) (names : List (List ℕ)) : Type 0 where
  pub new : are_new scope names ≡ true
  pub once : repeated [] names ≡ []

-- ---- lines

-- the expression has a kind under those of the names in scope, which passes the test
abbrev pub kind_passes : Scope → (ValueKind → Bool) → Expr → Bool
kind_passes scope test x = passes test (kind_of x (kinds_in scope))

-- whatever the names in scope are bound to, if their values fit their kinds, the input passes the test
abbrev pub InputsPass : Test → Scope → List ℕ → TowerExpr → Type 0
InputsPass test scope name tower = (env : Names) (input : Value) →
    Agree (kinds_in scope) env → HasPlace env → input_of tower env ≡ Ok input → test (pair name input) ≡ true

-- what a line says fits the names in scope, and what it emits passes the test
abbrev pub FormFits : Test → Scope → Form → Type 0
FormFits test scope (var_line n v) = AreFresh scope (n ∷ [])
FormFits test scope (first_head names axes product) = AreFresh scope names × (items_fit names (item_kind product axes) ≡ true)
FormFits test scope (inner_head n range) = AreFresh scope (n ∷ [])
FormFits test scope (init_line n v) = AreFresh scope (n ∷ [])
FormFits test scope (let_line names x) = AreFresh scope names × (kind_passes scope (fits_pattern names) x ≡ true)
FormFits test scope (set_line n x) = (n ≢ place_name) × (kind_passes scope (is_of (kinds_in scope n)) x ≡ true)
FormFits test scope (condition x) = kind_passes scope is_bool x ≡ true
FormFits test scope (keep_line n x) = AreFresh scope (n ∷ []) × (kind_passes scope is_maybe x ≡ true)
FormFits test scope (reduce_line n tower start) = InputsPass test scope n tower
FormFits test scope _ = Unit {0}

-- an entry fits where its names in scope have well-formed kinds and what it says fits
pub record EntryFits (test : Test) (entry : Entry) : Type 0 where
  pub formed : AreWellFormed (kinds_in entry.scope)
  pub says : FormFits test entry.scope entry.says

-- ---- body runs

-- A body run fits: the names of the outer scope are bound to values that fit, `place` to a place, and where it goes on also the
-- names in scope; what it emitted passes the test.
pub record RunFits (test : Test) (outer scope : Scope) (run : BodyRun) : Type 0 where
  pub around : FitScope outer run.names
  pub placed : HasPlace (get run.names)
  pub going : run.flow ≡ Going → FitScope scope run.names
  pub emitted : list_all test run.emitted ≡ true

-- Which expressions a loop may evaluate, and what its names are bound to there; and that none of them asks for a default.
-- Source: this project. Each condition counts with its block whether it is true or not, each expression and bound of a line
-- though one before it faults, and each item though one before it stops the run; what follows a fault, `continue` or `break`
-- in the blocks of a body run doesn't.
use Rattle.std.specs.Prelude.{◌≡◌, ℕ, ◌+◌, ◌*◌, List, [], ◌∷◌, ◌++◌, if◌then◌else◌, flat_map, length, slice_get, Some, Ok, ℤ}
use Rattle.std.specs.FinMap.{get}
use Rattle.std.specs.List.{AllByRecursion}
use Rattle.loop_data.specs.declared.value.Value.{Value}
use Rattle.loop_data.specs.declared.value.Value.TheVariants.{Int}
use Rattle.loop_data.specs.declared.value.ValueKind.{ValueKind}
use Rattle.loop_data.specs.declared.expr.Expr.{Expr, roll-Expr}
use Rattle.loop_data.specs.declared.expr.Expr.TheOpen.{Expr-F as e}
use Rattle.loop_data.specs.declared.head.Inner.{Inner}
use Rattle.loop_data.specs.declared.tower.TowerExpr.{TowerExpr}
use Rattle.loop_data.specs.declared.tower.TowerExpr.TheOpen.{TowerExpr-F, TowerExpr-F as t}
use Rattle.loop_data.specs.declared.tower.TowerExpr.TheFolds.{fold-TowerExpr}
use Rattle.loop_data.specs.declared.statement.Statement.{Statement, roll-Statement}
use Rattle.loop_data.specs.declared.statement.Branch.{Branch, roll-Branch}
use Rattle.loop_data.specs.declared.statement.Statement.TheOpen.{Statement-F, Statement-F as s, Branch-F}
use Rattle.loop_grammar.specs.declared.tree.ProgramTree.{ProgramTree}
use Rattle.loop_values.specs.Bindings.{Bindings}
use Rattle.loop_values.specs.InnerItems.{inner_items}
use Rattle.loop_values.specs.Kinds.{kind_of}
use Rattle.loop_values.specs.StrictValues.{strict_value_of}
use Rattle.loop_values.specs.Values.{value_of}
use Rattle.tower_inputs.specs.Towers.{with_place}
use Rattle.legality_rules.specs.Lines.{Entry, Form, axis_bounds, range_bounds}
use Rattle.legality_rules.specs.Lines.{condition, first_head, inner_head, keep_line, let_line, reduce_line, set_line}
use Rattle.legality_rules.specs.Scopes.{Scope, kinds_in}
use Rattle.loop_meaning.specs.declared.steps.BodyRun.{BodyRun}
use Rattle.loop_meaning.specs.declared.steps.Flow.TheVariants.{Going}
use Rattle.loop_meaning.specs.Statements.{naming, statement_run, while_going}
use Rattle.loop_meaning.specs.Steps.{body_step, first_run, for_item, inner_runs, names_for}

-- the expression asks for no default: the evaluator without defaults gives its value, or its fault
abbrev pub IsStrict : Expr → Bindings → Type 0
IsStrict x names = strict_value_of x (get names) ≡ Some (value_of x (get names))

-- ---- the expressions of lines

-- one layer of a tower, given the expressions of its inner towers: `argmin` and `argmax` ask for `place` too
abbrev pub tower_expressions_step : TowerExpr-F (List Expr) → List Expr
tower_expressions_step (t.Leaf leaf x) = x ∷ (if with_place leaf then roll-Expr e.Place ∷ [] else [])
tower_expressions_step t.Count = []
tower_expressions_step (t.Grouped key inner) = key ∷ inner
tower_expressions_step (t.Both left right) = left ++ right

-- the expressions of a tower, from left to right
abbrev pub tower_expressions : TowerExpr → List Expr
tower_expressions = fold-TowerExpr (List Expr) tower_expressions_step

-- the expressions of what an entry says
abbrev pub expressions : Form → List Expr
expressions (first_head ns axes product) = flat_map axis_bounds axes
expressions (inner_head n range) = range_bounds range
expressions (let_line ns x) = x ∷ []
expressions (set_line n x) = x ∷ []
expressions (condition x) = x ∷ []
expressions (keep_line n x) = x ∷ []
expressions (reduce_line n tower start) = tower_expressions tower
expressions _ = []

-- the expression has a kind under those of the names in scope
abbrev pub HasKind : Scope → Expr → Type 0
HasKind scope x = (kind : ValueKind) × (kind_of x (kinds_in scope) ≡ Ok kind)

-- each expression of the entry has a kind
abbrev pub AreKinded : Entry → Type 0
AreKinded entry = AllByRecursion (HasKind entry.scope) (expressions entry.says)

-- ---- statements

-- the expressions on the own line of a statement, conditions aside
abbrev pub own_expressions : Statement-F Statement Branch → List Expr
own_expressions (s.Let line ns x) = x ∷ []
own_expressions (s.Set line n x) = x ∷ []
own_expressions (s.Keep line n x) = x ∷ []
own_expressions (s.Reduce line n tower start) = tower_expressions tower
own_expressions _ = []

mutual
  -- InStatement z run x names: from a body run that stands so, and goes on, the statement z may evaluate x, and `names` are then
  -- the names with their values.
  pub data InStatement : Statement → BodyRun → Expr → Bindings → Type 0 where
    own : (layer : Statement-F Statement Branch) (i : ℕ) {run : BodyRun} {x : Expr} →
        slice_get (own_expressions layer) i ≡ Some x → InStatement (roll-Statement layer) run x run.names
    in_branch : (line else_line end_line : ℕ) (branches : List Branch) (other : List Statement)
        (i : ℕ) {b : Branch} {run : BodyRun} {x : Expr} {names : Bindings} →
        slice_get branches i ≡ Some b → InBranch b run x names →
        InStatement (roll-Statement (s.If line branches else_line other end_line)) run x names
    in_else : (line else_line end_line : ℕ) (branches : List Branch) (other : List Statement)
        {run : BodyRun} {x : Expr} {names : Bindings} → InBlock other run x names →
        InStatement (roll-Statement (s.If line branches else_line other end_line)) run x names

  -- the same of a condition with its block, whether it is true or not
  pub data InBranch : Branch → BodyRun → Expr → Bindings → Type 0 where
    in_test : (b : Branch-F Statement Branch) {run : BodyRun} → InBranch (roll-Branch b) run b.test run.names
    in_block : (b : Branch-F Statement Branch) {run : BodyRun} {x : Expr} {names : Bindings} →
        InBlock b.block run x names → InBranch (roll-Branch b) run x names

  -- the same of statements one after another, each from how those before it left the body run
  pub data InBlock : List Statement → BodyRun → Expr → Bindings → Type 0 where
    here : {z : Statement} {zs : List Statement} {run : BodyRun} {x : Expr} {names : Bindings} →
        run.flow ≡ Going → InStatement z run x names → InBlock (z ∷ zs) run x names
    later : {z : Statement} {zs : List Statement} {run : BodyRun} {x : Expr} {names : Bindings} →
        InBlock zs (while_going (statement_run z) run) x names → InBlock (z ∷ zs) run x names

-- ---- inner heads

mutual
  -- InHeads program heads width run x names: the same of the body runs of these inner heads, of which there are `width` already:
  -- the bounds of each range, and what the body may evaluate for each innermost item.
  pub data InHeads (program : ProgramTree) : List Inner → ℕ → BodyRun → Expr → Bindings → Type 0 where
    in_body : {width : ℕ} {run : BodyRun} {x : Expr} {names : Bindings} →
        InBlock program.body run x names → InHeads program [] width run x names
    of_bound : (i : ℕ) {head : Inner} {heads : List Inner} {width : ℕ} {run : BodyRun} {x : Expr} →
        slice_get (range_bounds head.range) i ≡ Some x → InHeads program (head ∷ heads) width run x run.names
    of_item : {head : Inner} {heads : List Inner} {width : ℕ} {items : List ℤ} {run : BodyRun} {x : Expr} {names : Bindings} →
        inner_items head.range (get run.names) width ≡ Ok items →
        InItems program head heads (width * length items) items run x names → InHeads program (head ∷ heads) width run x names

  -- the same of the body runs of these items of an inner head, one after another, with the heads under it
  pub data InItems (program : ProgramTree) : Inner → List Inner → ℕ → List ℤ → BodyRun → Expr → Bindings → Type 0 where
    at_item : {head : Inner} {heads : List Inner} {width : ℕ} {item : ℤ} {items : List ℤ}
        {run : BodyRun} {x : Expr} {names : Bindings} → InHeads program heads width (naming head.name (Int item) run) x names →
        InItems program head heads width (item ∷ items) run x names
    past_item : {head : Inner} {heads : List Inner} {width : ℕ} {item : ℤ} {items : List ℤ}
        {run : BodyRun} {x : Expr} {names : Bindings} →
        InItems program head heads width items
        (while_going (for_item program head.name (inner_runs program heads width) item) run) x names →
        InItems program head heads width (item ∷ items) run x names

-- ---- steps and runs

-- the same of the step of an item at a place, from a store
abbrev pub InStep : ProgramTree → Bindings → Value → ℕ → Expr → Bindings → Type 0
InStep program store item place x names =
    InHeads program program.head.inner 1 (first_run (names_for program store item place)) x names

-- the same of the run from a store over items, the first of which has this place
pub data InRun (program : ProgramTree) : Bindings → List Value → ℕ → Expr → Bindings → Type 0 where
  at_first : {store : Bindings} {item : Value} {items : List Value} {place : ℕ} {x : Expr} {names : Bindings} →
      InStep program store item place x names → InRun program store (item ∷ items) place x names
  at_later : {store : Bindings} {item : Value} {items : List Value} {place : ℕ} {x : Expr} {names : Bindings} →
      InRun program (body_step program store item place).store items (place + 1) x names →
      InRun program store (item ∷ items) place x names

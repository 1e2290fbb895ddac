-- What is emitted stands behind what was emitted before, and nothing else depends on that.
use Rattle.std.proofs.Common.{◌≡◌, ℕ, ◌*◌, Bool, true, false, List, [], ◌∷◌, ◌++◌, length, map, Result, Ok, Err, refl, sym, ap, ◌∙◌, subst, append_assoc, append-nil}
use Rattle.std.specs.Prelude.{if◌then◌else◌, ℤ}
use Rattle.std.specs.FinMap.{get}
use Rattle.loop_data.specs.ValueParts.{as_bool}
use Rattle.loop_data.specs.declared.value.Value.{Value}
use Rattle.loop_data.specs.declared.value.Value.TheVariants.{Int, Nothing}
use Rattle.loop_data.specs.declared.head.Inner.{Inner}
use Rattle.loop_data.specs.declared.statement.Statement.{Statement, ind-Statement, fold-roll-Statement, map-Statement}
use Rattle.loop_data.specs.declared.statement.Branch.{Branch, fold-roll-Branch}
use Rattle.loop_data.specs.declared.statement.Statement.TheOpen.{Statement-F, Statement-F as s, Branch-F}
use Rattle.loop_data.specs.declared.statement.Statement.TheFolds as folds
use Rattle.loop_grammar.specs.declared.tree.ProgramTree.{ProgramTree}
use Rattle.loop_values.specs.declared.stop.EvalStop.{EvalStop}
use Rattle.loop_values.specs.Bindings.{Bindings}
use Rattle.loop_values.specs.InnerItems.{inner_items}
use Rattle.loop_values.specs.Operations.{Outcome}
use Rattle.loop_values.specs.Values.{Meaning, value_of}
use Rattle.tower_inputs.specs.Inputs.{input_of}
use Rattle.loop_meaning.specs.declared.steps.BodyRun.{BodyRun}
use Rattle.loop_meaning.specs.declared.steps.Pair.{Pair}
use Rattle.loop_meaning.specs.declared.steps.Flow.TheVariants.{Going}
use Rattle.loop_meaning.specs.Laws.{BlocksEmitBehind, HeadsEmitBehind, behind}
use Rattle.loop_meaning.specs.Statements.{Action, Choice, block_run, branch_run, branch_step, emitting, evaluating, first_true, in_turn, is_going, keeping_something, matching, naming, statement_run, statement_step, while_going, with_value}
use Rattle.loop_meaning.specs.Steps.{body_run, first_run, for_each, for_item, inner_runs, kept_names, names_for, next_run, with_items}

-- the action does the same behind what was emitted before
pub record Appends (action : Action) : Type 0 where
  pub same : (before : List Pair) (run : BodyRun) → action (behind before run) ≡ behind before (action run)

quiet : (action : Action) → ((before : List Pair) (run : BodyRun) → action (behind before run) ≡ behind before (action run)) → Appends action
quiet action h = record { same = h }

-- ---- the parts of statements

given_value : (line : ℕ) (o : Outcome) (next : Value → Action) → ((v : Value) → Appends (next v)) → Appends (with_value line o next)
given_value line (Ok v) next e = e v
given_value line (Err stop) next e = quiet _ (λ before run. refl)

evaluated : (line : ℕ) (m : Meaning) (next : Value → Action) → ((v : Value) → Appends (next v)) → Appends (evaluating line m next)
evaluated line m next e = record { same = λ before run. (given_value line (m _) next e).same before run }

kept : (name : List ℕ) (v : Value) → Appends (keeping_something name v)
kept name Nothing = quiet _ (λ before run. refl)
kept name v = quiet _ (λ before run. refl)

emits : (name : List ℕ) (v : Value) → Appends (emitting name v)
emits name v = quiet _ (λ before run i. record {
  names = run.names;
  emitted = append_assoc before run.emitted (record { name = name; input = v } ∷ []) i;
  flow = run.flow;
})

going_at : (action : Action) → Appends action → (before : List Pair) (run : BodyRun) (b : Bool) →
    (if b then action (behind before run) else behind before run) ≡ behind before (if b then action run else run)
going_at action e before run true = e.same before run
going_at action e before run false = refl

chosen : (b : Bool) (block other : Action) → Appends block → Appends other → Appends (if b then block else other)
chosen true block other e f = e
chosen false block other e f = f

then_ : (action further : Action) → Appends action → Appends further → Appends (λ run. further (while_going action run))
then_ action further e f = record { same = λ before run. ap further (going_at action e before run (is_going run.flow)) ∙ f.same before (while_going action run) }

-- ---- statements

abbrev IsBehind : Statement → Type 0
IsBehind x = Appends (statement_run x)

abbrev IsBehindBranch : Branch → Type 0
IsBehindBranch b = (other : Action) → Appends other → Appends (branch_run b other)

abbrev Such : Type 0
Such = (x : Statement) × IsBehind x

abbrev SuchBranch : Type 0
SuchBranch = (b : Branch) × IsBehindBranch b

abbrev bare : Such → Statement
bare e = e.0

abbrev bare_branch : SuchBranch → Branch
bare_branch e = e.0

block_behind : (block : List Such) → Appends (in_turn (map statement_run (map bare block)))
block_behind [] = quiet _ (λ before run. refl)
block_behind (x ∷ xs) = then_ (statement_run x.0) (in_turn (map statement_run (map bare xs))) x.1 (block_behind xs)

branches_behind : (branches : List SuchBranch) (other : Action) → Appends other → Appends (first_true (map branch_run (map bare_branch branches)) other)
branches_behind [] other e = e
branches_behind (b ∷ bs) other e = b.1 (first_true (map branch_run (map bare_branch bs)) other) (branches_behind bs other e)

abbrev RunOf : Statement-F Statement Branch → Action
RunOf w = statement_step (map-Statement Statement Branch Action Choice statement_run branch_run w)

abbrev BranchRunOf : Branch-F Statement Branch → Choice
BranchRunOf w = branch_step (folds.map-Branch Statement Branch Action Choice statement_run branch_run w)

layer_behind : (y : Statement-F Such SuchBranch) → Appends (RunOf (map-Statement Such SuchBranch Statement Branch bare bare_branch y))
layer_behind (s.Let line pattern x) = evaluated line (value_of x) (matching pattern) (λ v. quiet _ (λ before run. refl))
layer_behind (s.Set line name x) = evaluated line (value_of x) (naming name) (λ v. quiet _ (λ before run. refl))
layer_behind (s.If line branches else_line other end_line) = branches_behind branches (in_turn (map statement_run (map bare other))) (block_behind other)
layer_behind (s.Keep line name x) = evaluated line (value_of x) (keeping_something name) (kept name)
layer_behind (s.Reduce line name tower start) = evaluated line (input_of tower) (emitting name) (emits name)
layer_behind (s.Continue line) = quiet _ (λ before run. refl)
layer_behind (s.Break line) = quiet _ (λ before run. refl)

branch_layer_behind : (y : Branch-F Such SuchBranch) (other : Action) → Appends other → Appends (BranchRunOf (folds.map-Branch Such SuchBranch Statement Branch bare bare_branch y) other)
branch_layer_behind y other e =
    evaluated y.line (value_of y.test) (λ v. if as_bool v then in_turn (map statement_run (map bare y.block)) else other)
    (λ v. chosen (as_bool v) _ other (block_behind y.block) e)

pub statement_behind : (x : Statement) → IsBehind x
statement_behind = ind-Statement IsBehind IsBehindBranch
    (λ x y is. subst Appends (sym (fold-roll-Statement Action Choice statement_step branch_step x)) (subst (λ w. Appends (RunOf w)) is (layer_behind y)))
    (λ x y is other h. subst (λ (choice : Choice). Appends (choice other)) (sym (fold-roll-Branch Action Choice statement_step branch_step x))
    (subst (λ w. Appends (BranchRunOf w other)) is (branch_layer_behind y other h)))

block_appends : (block : List Statement) → Appends (block_run block)
block_appends [] = quiet _ (λ before run. refl)
block_appends (x ∷ xs) = then_ (statement_run x) (block_run xs) (statement_behind x) (block_appends xs)

pub blocks_emit_behind : BlocksEmitBehind
blocks_emit_behind block before run = (block_appends block).same before run

-- ---- inner heads

module _ (program : ProgramTree) where
  body_appends : Appends (body_run program)
  body_appends = record { same = λ before run. ap (λ (after : BodyRun). record after { flow = next_run after.flow }) ((block_appends program.body).same before run) }

  item_appends : (name : List ℕ) (action : Action) (item : ℤ) → Appends action → Appends (for_item program name action item)
  item_appends name action item e = record { same = λ before run. ap (kept_names program run.names) (e.same before (naming name (Int item) run)) }

  each_appends : (name : List ℕ) (action : Action) → Appends action → (items : List ℤ) → Appends (for_each program name items action)
  each_appends name action e [] = quiet _ (λ before run. refl)
  each_appends name action e (x ∷ xs) = then_ (for_item program name action x) (for_each program name xs action) (item_appends name action x e) (each_appends name action e xs)

  items_append : (o : Result (List ℤ) EvalStop) (next : List ℤ → Action) → ((items : List ℤ) → Appends (next items)) → Appends (with_items program.head.line o next)
  items_append (Ok items) next e = e items
  items_append (Err stop) next e = quiet _ (λ before run. refl)

  heads_append : (heads : List Inner) (width : ℕ) → Appends (inner_runs program heads width)
  heads_append [] width = record { same = λ before run. body_appends.same before run }
  heads_append (head ∷ heads) width = record {
    same = λ before run.
        (items_append (inner_items head.range (get run.names) width) (λ items. for_each program head.name items (inner_runs program heads (width * length items)))
        (λ items. each_appends head.name (inner_runs program heads (width * length items)) (heads_append heads (width * length items)) items)).same before run;
  }

pub heads_emit_behind : HeadsEmitBehind
heads_emit_behind program heads width before run = (heads_append program heads width).same before run

-- the body runs of a step, behind what was emitted before it
pub step_behind : (program : ProgramTree) (names : Bindings) (before : List Pair) →
    inner_runs program program.head.inner 1 (record { names = names; emitted = before; flow = Going }) ≡ behind before (inner_runs program program.head.inner 1 (first_run names))
step_behind program names before =
    ap (λ xs. inner_runs program program.head.inner 1 (record { names = names; emitted = xs; flow = Going })) (sym (append-nil before))
    ∙ heads_emit_behind program program.head.inner 1 before (first_run names)

-- the same, as the code has it: where the tree, the heads, the names and what was emitted before are those
pub step_run : (tree program : ProgramTree) (store : Bindings) (item : Value) (place : ℕ) (heads : List Inner) (names : Bindings) (before emitted : List Pair) (run : BodyRun) →
    tree ≡ program → heads ≡ tree.head.inner → names ≡ names_for tree store item place → emitted ≡ before →
    run ≡ inner_runs tree heads 1 (record { names = names; emitted = emitted; flow = Going }) →
    run ≡ behind before (inner_runs program program.head.inner 1 (first_run (names_for program store item place)))
step_run tree program store item place heads names before emitted run ts hs ns es is =
    is
    ∙ ap (λ h. inner_runs tree h 1 (record { names = names; emitted = emitted; flow = Going })) hs
    ∙ ap (λ n. inner_runs tree tree.head.inner 1 (record { names = n; emitted = emitted; flow = Going })) ns
    ∙ ap (λ xs. inner_runs tree tree.head.inner 1 (record { names = names_for tree store item place; emitted = xs; flow = Going })) es
    ∙ step_behind tree (names_for tree store item place) before
    ∙ ap (λ (p : ProgramTree). behind before (inner_runs p p.head.inner 1 (first_run (names_for p store item place)))) ts

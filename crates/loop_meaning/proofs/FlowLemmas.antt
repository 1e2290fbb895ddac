-- A body run that faults has a fault's kind.
use Rattle.std.proofs.Common.{◌≡◌, ℕ, ◌≤◌, ◌+◌, ◌*◌, Bool, true, false, List, [], ◌∷◌, length, map, Result, Ok, Err, refl, sym, subst}
use Rattle.std.specs.Prelude.{if◌then◌else◌, ℤ}
use Rattle.std.specs.FinMap.{get}
use Rattle.loop_data.specs.declared.value.Value.{Value}
use Rattle.loop_data.specs.declared.value.Value.TheVariants.{Int, Nothing}
use Rattle.loop_data.specs.declared.head.Inner.{Inner}
use Rattle.loop_data.specs.declared.statement.Statement.{Statement, ind-Statement, fold-roll-Statement, map-Statement}
use Rattle.loop_data.specs.declared.statement.Branch.{Branch, fold-roll-Branch}
use Rattle.loop_data.specs.declared.statement.Statement.TheOpen.{Statement-F, Statement-F as s, Branch-F}
use Rattle.loop_data.specs.declared.statement.Statement.TheFolds as folds
use Rattle.loop_grammar.specs.SkippedFaults.{skips_faults}
use Rattle.loop_grammar.specs.declared.tree.ProgramTree.{ProgramTree}
use Rattle.loop_values.specs.declared.stop.EvalStop.{EvalStop}
use Rattle.loop_values.specs.Bindings.{Names}
use Rattle.loop_values.specs.InnerItems.{inner_items}
use Rattle.loop_data.specs.ValueParts.{as_bool}
use Rattle.loop_values.specs.Operations.{Outcome}
use Rattle.loop_values.specs.Values.{Meaning, value_of}
use Rattle.loop_meaning.specs.declared.steps.BodyEnd.{BodyEnd}
use Rattle.loop_meaning.specs.declared.steps.BodyEnd.TheVariants as end
use Rattle.loop_meaning.specs.declared.steps.BodyRun.{BodyRun}
use Rattle.loop_meaning.specs.declared.steps.Flow.{Flow}
use Rattle.loop_meaning.specs.declared.steps.Flow.TheVariants.{Going, Continued, Broke, Faulted}
use Rattle.loop_meaning.specs.declared.runs.Run.{Run}
use Rattle.tower_inputs.specs.Inputs.{input_of}
use Rattle.loop_meaning.specs.Laws.{HasKind, HasStopKind, FaultsHaveKinds, FaultStopsHaveKinds}
use Rattle.loop_meaning.specs.Runs.{loop_run, with_step}
use Rattle.loop_meaning.specs.Statements.{Action, Choice, block_run, branch_run, branch_step, emitting, evaluating, first_true, in_turn, is_going, keeping_something, matching, naming, statement_run, statement_step, while_going, with_value}
use Rattle.loop_meaning.specs.Steps.{Step, body_step, end_of, first_run, for_each, for_item, inner_runs, names_for, next_run, with_items}
use Rattle.loop_meaning.proofs.KindLemmas.{Proper, value_proper, input_proper, items_proper}

abbrev Kinded : Flow → Type 0
Kinded (Faulted line kind) = (1 ≤ kind) × (kind ≤ 5)
Kinded _ = Unit {0}

-- after the action a fault has a kind, if it had one before
pub record Keeps (action : Action) : Type 0 where
  pub kinded : (run : BodyRun) → Kinded run.flow → Kinded (action run).flow

-- ---- the parts of statements

given_value : (line : ℕ) (o : Outcome) (next : Value → Action) → Proper o → ((v : Value) → Keeps (next v)) → Keeps (with_value line o next)
given_value line (Ok v) next h e = e v
given_value line (Err stop) next h e = record { kinded = λ run k. h.kind stop refl }

evaluated : (line : ℕ) (m : Meaning) (next : Value → Action) → ((names : Names) → Proper (m names)) → ((v : Value) → Keeps (next v)) → Keeps (evaluating line m next)
evaluated line m next h e = record { kinded = λ run k. (given_value line (m _) next (h _) e).kinded run k }

-- an action that leaves the flow as it is
quiet : (action : Action) → ((run : BodyRun) → (action run).flow ≡ run.flow) → Keeps action
quiet action same = record { kinded = λ run k. subst Kinded (sym (same run)) k }

kept : (name : List ℕ) (v : Value) → Keeps (keeping_something name v)
kept name Nothing = record { kinded = λ run k. tt }
kept name v = quiet _ (λ run. refl)

going_at : (action : Action) → Keeps action → (run : BodyRun) (b : Bool) → Kinded run.flow → Kinded (if b then action run else run).flow
going_at action e run true k = e.kinded run k
going_at action e run false k = k

going : (action : Action) → Keeps action → Keeps (while_going action)
going action e = record { kinded = λ run k. going_at action e run (is_going run.flow) k }

chosen : (b : Bool) (block other : Action) → Keeps block → Keeps other → Keeps (if b then block else other)
chosen true block other e f = e
chosen false block other e f = f

-- ---- statements

abbrev IsKinded : Statement → Type 0
IsKinded x = Keeps (statement_run x)

abbrev IsKindedBranch : Branch → Type 0
IsKindedBranch b = (other : Action) → Keeps other → Keeps (branch_run b other)

abbrev Such : Type 0
Such = (x : Statement) × IsKinded x

abbrev SuchBranch : Type 0
SuchBranch = (b : Branch) × IsKindedBranch b

abbrev bare : Such → Statement
bare e = e.0

abbrev bare_branch : SuchBranch → Branch
bare_branch e = e.0

block_keeps : (block : List Such) → Keeps (in_turn (map statement_run (map bare block)))
block_keeps [] = quiet _ (λ run. refl)
block_keeps (x ∷ xs) = record { kinded = λ run k. (block_keeps xs).kinded (while_going (statement_run x.0) run) ((going (statement_run x.0) x.1).kinded run k) }

branches_keep : (branches : List SuchBranch) (other : Action) → Keeps other → Keeps (first_true (map branch_run (map bare_branch branches)) other)
branches_keep [] other e = e
branches_keep (b ∷ bs) other e = b.1 (first_true (map branch_run (map bare_branch bs)) other) (branches_keep bs other e)

abbrev RunOf : Statement-F Statement Branch → Action
RunOf w = statement_step (map-Statement Statement Branch Action Choice statement_run branch_run w)

abbrev BranchRunOf : Branch-F Statement Branch → Choice
BranchRunOf w = branch_step (folds.map-Branch Statement Branch Action Choice statement_run branch_run w)

layer_keeps : (y : Statement-F Such SuchBranch) → Keeps (RunOf (map-Statement Such SuchBranch Statement Branch bare bare_branch y))
layer_keeps (s.Let line pattern x) = evaluated line (value_of x) (matching pattern) (value_proper x) (λ v. quiet _ (λ run. refl))
layer_keeps (s.Set line name x) = evaluated line (value_of x) (naming name) (value_proper x) (λ v. quiet _ (λ run. refl))
layer_keeps (s.If line branches else_line other end_line) = branches_keep branches (in_turn (map statement_run (map bare other))) (block_keeps other)
layer_keeps (s.Keep line name x) = evaluated line (value_of x) (keeping_something name) (value_proper x) (kept name)
layer_keeps (s.Reduce line name tower start) = evaluated line (input_of tower) (emitting name) (input_proper tower) (λ v. quiet _ (λ run. refl))
layer_keeps (s.Continue line) = record { kinded = λ run k. tt }
layer_keeps (s.Break line) = record { kinded = λ run k. tt }

branch_layer_keeps : (y : Branch-F Such SuchBranch) (other : Action) → Keeps other → Keeps (BranchRunOf (folds.map-Branch Such SuchBranch Statement Branch bare bare_branch y) other)
branch_layer_keeps y other e =
    evaluated y.line (value_of y.test) (λ v. if as_bool v then in_turn (map statement_run (map bare y.block)) else other) (value_proper y.test)
    (λ v. chosen (as_bool v) _ other (block_keeps y.block) e)

pub statement_kinded : (x : Statement) → IsKinded x
statement_kinded = ind-Statement IsKinded IsKindedBranch
    (λ x y is. subst Keeps (sym (fold-roll-Statement Action Choice statement_step branch_step x)) (subst (λ w. Keeps (RunOf w)) is (layer_keeps y)))
    (λ x y is other h. subst (λ (choice : Choice). Keeps (choice other)) (sym (fold-roll-Branch Action Choice statement_step branch_step x))
    (subst (λ w. Keeps (BranchRunOf w other)) is (branch_layer_keeps y other h)))

block_kinded : (block : List Statement) → Keeps (block_run block)
block_kinded [] = quiet _ (λ run. refl)
block_kinded (x ∷ xs) = record { kinded = λ run k. (block_kinded xs).kinded (while_going (statement_run x) run) ((going (statement_run x) (statement_kinded x)).kinded run k) }

-- ---- inner heads

next_kinded : (flow : Flow) → Kinded flow → Kinded (next_run flow)
next_kinded Continued k = tt
next_kinded Going k = tt
next_kinded (Broke line) k = tt
next_kinded (Faulted line kind) k = k

module _ (program : ProgramTree) where
  each_kinded : (name : List ℕ) (action : Action) → Keeps action → (items : List ℤ) → Keeps (for_each program name items action)
  each_kinded name action e [] = quiet _ (λ run. refl)
  each_kinded name action e (x ∷ xs) =
      let one : Keeps (for_item program name action x) = record { kinded = λ run k. e.kinded (naming name (Int x) run) k } in
      record { kinded = λ run k. (each_kinded name action e xs).kinded (while_going (for_item program name action x) run) ((going (for_item program name action x) one).kinded run k) }

  head_kinded : (name : List ℕ) (line : ℕ) (o : Result (List ℤ) EvalStop) (next : List ℤ → Action) → Proper o → ((items : List ℤ) → Keeps (next items)) → Keeps (with_items line o next)
  head_kinded name line (Ok items) next h e = e items
  head_kinded name line (Err stop) next h e = record { kinded = λ run k. h.kind stop refl }

  heads_kinded : (heads : List Inner) (width : ℕ) → Keeps (inner_runs program heads width)
  heads_kinded [] width = record { kinded = λ run k. next_kinded (block_run program.body run).flow ((block_kinded program.body).kinded run k) }
  heads_kinded (h ∷ hs) width = record {
    kinded = λ run k.
        (head_kinded h.name program.head.line (inner_items h.range (get run.names) width) (λ items. for_each program h.name items (inner_runs program hs (width * length items)))
        (items_proper h.range (get run.names) width) (λ items. each_kinded h.name (inner_runs program hs (width * length items)) (heads_kinded hs (width * length items)) items)).kinded run k;
  }

end_kinded : (flow : Flow) → Kinded flow → HasKind (end_of flow)
end_kinded Going k = tt
end_kinded Continued k = tt
end_kinded (Broke line) k = tt
end_kinded (Faulted line kind) k = k

pub faults_have_kinds : FaultsHaveKinds
faults_have_kinds program store item place =
    let start = first_run (names_for program store item place) in
    end_kinded (inner_runs program program.head.inner 1 start).flow ((heads_kinded program program.head.inner 1).kinded start tt)

step_kinded : (skips : Bool) (e : BodyEnd) (step : Step) (place : ℕ) (rest : Run) → HasKind e → HasStopKind rest.stop → HasStopKind (with_step skips e step place rest).stop
step_kinded skips end.Next step place rest h r = r
step_kinded skips (end.Break line) step place rest h r = tt
step_kinded true (end.Fault line kind) step place rest h r = r
step_kinded false (end.Fault line kind) step place rest h r = h

pub fault_stops_have_kinds : FaultStopsHaveKinds
fault_stops_have_kinds program store [] place = tt
fault_stops_have_kinds program store (x ∷ xs) place =
    let step = body_step program store x place in
    step_kinded (skips_faults program) step.end step place (loop_run program step.store xs (place + 1)) (faults_have_kinds program store x place) (fault_stops_have_kinds program step.store xs (place + 1))

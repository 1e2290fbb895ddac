-- The loop with one path on which its scratch isn't written gives another answer in two parts.
use Rattle.std.proofs.Common.{◌≡◌, ℕ, List, [], ◌∷◌, Some, None, Ok, Err, refl, ap, ◌∙◌, rules, pos}
use Rattle.std.specs.Prelude.{codes, if◌then◌else◌}
use Rattle.std.specs.FinMap.{empty, get, insert}
use Rattle.loop_data.specs.ValueParts.{as_bool}
use Rattle.loop_data.specs.declared.value.Value.{Value}
use Rattle.loop_data.specs.declared.value.Value.TheVariants.{Int}
use Rattle.loop_data.specs.declared.expr.Op.TheVariants.{Gt}
use Rattle.loop_data.specs.declared.expr.Expr.TheVariants as e
use Rattle.loop_data.specs.declared.tower.Kind.{the_lemmas as kind_lemmas}
use Rattle.loop_data.specs.declared.tower.TowerExpr.{the_lemmas as tower_lemmas}
use Rattle.loop_data.specs.declared.statement.Statement.{the_lemmas as statement_lemmas}
use Rattle.loop_data.specs.declared.statement.Statement.TheVariants as s
use Rattle.loop_data.specs.declared.head.Axis.{the_lemmas as axis_lemmas}
use Rattle.loop_values.specs.Bindings.{Bindings, Names, place_name}
use Rattle.loop_values.specs.Operations.{and_then}
use Rattle.loop_values.specs.Values.{value_of, bound, second}
use Rattle.loop_values.proofs.Layers.{value_of-Lit, value_of-Name, value_of-Two}
use Rattle.tower_inputs.specs.Inputs.{input_of}
use Rattle.loop_meaning.specs.declared.steps.BodyRun.{BodyRun}
use Rattle.loop_meaning.specs.Statements.{block_run, emitting, evaluating, in_turn, naming, statement_run, while_going, with_value}
use Rattle.loop_meaning.specs.Steps.{body_step, end_of, first_run, next_run}
use Rattle.loop_meaning.specs.Stores.{start_store, with_found}
use Rattle.carries_nothing.specs.Laws.{SometimesWrittenCarries, SometimesWrittenIsIllegal}
use Rattle.carries_nothing.specs.Carriers.{is_large, large_branch, sometimes_body, sometimes_written, sum_of_b}
use Rattle.carries_nothing.proofs.CarriedRuns.{Emits, done, emits, number, second_is}
use Rattle.carries_nothing.proofs.Cuts.{legal_carries_nothing}
use Rattle.carries_nothing.proofs.SameNames.{get_inserted}

abbrev b : List ℕ
b = codes "b"

abbrev x : List ℕ
x = codes "x"

-- ---- what its lines do

input_is : (env : Names) → input_of sum_of_b env ≡ value_of (e.Name b) env
input_is env = tower env ∙ whole (value_of (e.Name b) env)
  where
    tower : (env : Names) → input_of sum_of_b env ≡ and_then (value_of (e.Name b) env) (λ v. Ok v)
    tower env = search (rules, tower_lemmas, kind_lemmas)

    whole : (o : _) → and_then o (λ v. Ok v) ≡ o
    whole (Ok v) = refl
    whole (Err stop) = refl

reduce_runs : (run : BodyRun) → statement_run (s.Reduce 6 (codes "s") sum_of_b None) run ≡ evaluating 6 (input_of sum_of_b) (emitting (codes "s")) run
reduce_runs run = search (rules, statement_lemmas, axis_lemmas)

set_runs : (run : BodyRun) → statement_run (s.Set 4 b (e.Name x)) run ≡ evaluating 4 (value_of (e.Name x)) (naming b) run
set_runs run = search (rules, statement_lemmas, axis_lemmas)

if_runs : (run : BodyRun) → statement_run (s.If 3 (large_branch ∷ []) 0 [] 5) run
    ≡ evaluating 3 (value_of is_large) (λ v. if as_bool v then in_turn (statement_run (s.Set 4 b (e.Name x)) ∷ []) else in_turn []) run
if_runs run = search (rules, statement_lemmas, axis_lemmas)

test_is : (env : Names) (k : ℕ) → env x ≡ Some (number k) → value_of is_large env ≡ second Gt (number k) (Ok (number 2))
test_is env k is =
    value_of-Two env Gt (e.Name x) (e.Lit (number 2))
    ∙ ap (λ o. and_then o (λ v. second Gt v (value_of (e.Lit (number 2)) env))) (value_of-Name env x ∙ ap bound is)
    ∙ ap (second Gt (number k)) (value_of-Lit env (number 2))

-- ---- one body run

if_large : (names : Bindings) → get names x ≡ Some (number 3) → statement_run (s.If 3 (large_branch ∷ []) 0 [] 5) (first_run names) ≡ done (insert names b (number 3)) []
if_large names is =
    if_runs (first_run names)
    ∙ ap (λ o. with_value 3 o (λ v. if as_bool v then in_turn (statement_run (s.Set 4 b (e.Name x)) ∷ []) else in_turn []) (first_run names)) (test_is (get names) 3 is)
    ∙ set_runs (first_run names)
    ∙ ap (λ o. with_value 4 o (naming b) (first_run names)) (value_of-Name (get names) x ∙ ap bound is)

if_small : (names : Bindings) → get names x ≡ Some (number 1) → statement_run (s.If 3 (large_branch ∷ []) 0 [] 5) (first_run names) ≡ first_run names
if_small names is =
    if_runs (first_run names)
    ∙ ap (λ o. with_value 3 o (λ v. if as_bool v then in_turn (statement_run (s.Set 4 b (e.Name x)) ∷ []) else in_turn []) (first_run names)) (test_is (get names) 1 is)

reduced : (names : Bindings) (v : Value) → get names b ≡ Some v → statement_run (s.Reduce 6 (codes "s") sum_of_b None) (first_run names) ≡ done names (emits v)
reduced names v is =
    reduce_runs (first_run names) ∙ ap (λ o. with_value 6 o (emitting (codes "s")) (first_run names)) (input_is (get names) ∙ value_of-Name (get names) b ∙ ap bound is)

block_large : (names : Bindings) → get names x ≡ Some (number 3) → block_run sometimes_body (first_run names) ≡ done (insert names b (number 3)) (emits (number 3))
block_large names is =
    ap (while_going (statement_run (s.Reduce 6 (codes "s") sum_of_b None))) (if_large names is)
    ∙ reduced (insert names b (number 3)) (number 3) (get_inserted names b b (number 3))

block_small : (names : Bindings) (v : Value) → get names x ≡ Some (number 1) → get names b ≡ Some v → block_run sometimes_body (first_run names) ≡ done names (emits v)
block_small names v is has = ap (while_going (statement_run (s.Reduce 6 (codes "s") sum_of_b None))) (if_small names is) ∙ reduced names v has

-- ---- one step

abbrev begun : Bindings → Value → ℕ → Bindings
begun env item place = insert (insert env place_name (Int (pos place))) x item

step_large : (env : Bindings) (place : ℕ) → Emits (number 3) (body_step sometimes_written env (number 3) place)
step_large env place =
    let block = block_large (begun env (number 3) place) (get_inserted (insert env place_name (Int (pos place))) x x (number 3)) in
    record { emitted = ap (λ (r : BodyRun). r.emitted) block; end = ap (λ (r : BodyRun). end_of (next_run r.flow)) block }

large_left : (env : Bindings) (place : ℕ) → get (body_step sometimes_written env (number 3) place).store b ≡ Some (number 3)
large_left env place =
    let names : Bindings = begun env (number 3) place in
    let block = block_large names (get_inserted (insert env place_name (Int (pos place))) x x (number 3)) in
    ap (λ (r : BodyRun). get (with_found env b (get r.names b)) b) block
    ∙ ap (λ o. get (with_found env b o) b) (get_inserted names b b (number 3))
    ∙ get_inserted env b b (number 3)

step_small : (env : Bindings) (v : Value) (place : ℕ) → get env b ≡ Some v → Emits v (body_step sometimes_written env (number 1) place)
step_small env v place has =
    let named : Bindings = insert env place_name (Int (pos place)) in
    let block = block_small (begun env (number 1) place) v (get_inserted named x x (number 1)) (get_inserted named x b (number 1) ∙ get_inserted env place_name b (Int (pos place)) ∙ has) in
    record { emitted = ap (λ (r : BodyRun). r.emitted) block; end = ap (λ (r : BodyRun). end_of (next_run r.flow)) block }

-- ---- its runs

begins : get (start_store sometimes_written) b ≡ Some (number 0)
begins = get_inserted empty b b (number 0)

pub carries : SometimesWrittenCarries
carries nothing =
    let start : Bindings = start_store sometimes_written in
    let same =
    second_is sometimes_written (number 3) (number 1) 3 3 0 nothing (step_large start 1)
    (step_small (body_step sometimes_written start (number 3) 1).store (number 3) 2 (large_left start 1)) (step_small start (number 0) 2 begins) in
    absurd (cc)

-- so it isn't legal
pub illegal : SometimesWrittenIsIllegal
illegal legal = carries (legal_carries_nothing sometimes_written legal)

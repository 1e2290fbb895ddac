-- The loop that assigns an outer variable gives another answer in two parts.
use Rattle.std.proofs.Common.{◌≡◌, ℕ, List, Some, None, Ok, Err, refl, ap, ◌∙◌, rules, pos}
use Rattle.std.specs.Prelude.{codes, FitsSigned}
use Rattle.std.specs.Int.{w64}
use Rattle.std.proofs.lemmas.Int.{int_wrap_fits}
use Rattle.std.specs.FinMap.{empty, get, insert}
use Rattle.loop_data.specs.declared.value.Value.TheVariants.{Int}
use Rattle.loop_data.specs.declared.expr.Op.TheVariants.{Add}
use Rattle.loop_data.specs.declared.expr.Expr.TheVariants as e
use Rattle.loop_data.specs.declared.tower.Kind.{the_lemmas as kind_lemmas}
use Rattle.loop_data.specs.declared.tower.TowerExpr.{the_lemmas as tower_lemmas}
use Rattle.loop_data.specs.declared.statement.Statement.{the_lemmas as statement_lemmas}
use Rattle.loop_data.specs.declared.statement.Statement.TheVariants as s
use Rattle.loop_data.specs.declared.head.Axis.{the_lemmas as axis_lemmas}
use Rattle.loop_values.specs.Bindings.{Bindings, Names, place_name}
use Rattle.loop_values.specs.Operations.{Outcome, and_then, wrapped}
use Rattle.loop_values.specs.Values.{value_of, bound, second}
use Rattle.loop_values.proofs.Layers.{value_of-Name, value_of-Two}
use Rattle.tower_inputs.specs.Inputs.{input_of}
use Rattle.loop_meaning.specs.declared.steps.BodyRun.{BodyRun}
use Rattle.loop_meaning.specs.Statements.{block_run, emitting, evaluating, naming, statement_run, while_going, with_value}
use Rattle.loop_meaning.specs.Steps.{body_step, end_of, first_run, next_run}
use Rattle.loop_meaning.specs.Stores.{start_store, with_found}
use Rattle.carries_nothing.specs.Carriers.{one_more_x, running_body, running_sum, sum_of_t}
use Rattle.carries_nothing.specs.Laws.{RunningSumCarries, RunningSumIsIllegal}
use Rattle.carries_nothing.proofs.CarriedRuns.{Emits, done, emits, number, second_is}
use Rattle.carries_nothing.proofs.Cuts.{legal_carries_nothing}
use Rattle.carries_nothing.proofs.SameNames.{get_inserted}

abbrev t : List ℕ
t = codes "t"

abbrev x : List ℕ
x = codes "x"

-- ---- what its lines do

input_is : (env : Names) → input_of sum_of_t env ≡ value_of (e.Name t) env
input_is env = tower env ∙ whole (value_of (e.Name t) env)
  where
    tower : (env : Names) → input_of sum_of_t env ≡ and_then (value_of (e.Name t) env) (λ v. Ok v)
    tower env = search (rules, tower_lemmas, kind_lemmas)

    whole : (o : _) → and_then o (λ v. Ok v) ≡ o
    whole (Ok v) = refl
    whole (Err stop) = refl

reduce_runs : (run : BodyRun) → statement_run (s.Reduce 4 (codes "s") sum_of_t None) run ≡ evaluating 4 (input_of sum_of_t) (emitting (codes "s")) run
reduce_runs run = search (rules, statement_lemmas, axis_lemmas)

set_runs : (run : BodyRun) → statement_run (s.Set 3 t one_more_x) run ≡ evaluating 3 (value_of one_more_x) (naming t) run
set_runs run = search (rules, statement_lemmas, axis_lemmas)

sum_is : (env : Names) (k n : ℕ) → env t ≡ Some (number k) → env x ≡ Some (number n) → value_of one_more_x env ≡ second Add (number k) (Ok (number n))
sum_is env k n has is =
    value_of-Two env Add (e.Name t) (e.Name x)
    ∙ ap (λ o. and_then o (λ v. second Add v (value_of (e.Name x) env))) (value_of-Name env t ∙ ap bound has)
    ∙ ap (second Add (number k)) (value_of-Name env x ∙ ap bound is)

-- a small number is within 64 bits
abbrev Plain : ℕ → ℕ → ℕ → Type 0
Plain k n m = second Add (number k) (Ok (number n)) ≡ Ok (number m)

plain : (m : ℕ) → FitsSigned w64 (pos m) → ◌≡◌ {A = Outcome} (wrapped (pos m)) (Ok (number m))
plain m fits = ap (λ z. Ok (Int z)) (int_wrap_fits w64 (pos m) fits)

zero_and_one : Plain 0 1 1
zero_and_one = plain 1 (search rules)

one_and_two : Plain 1 2 3
one_and_two = plain 3 (search rules)

zero_and_two : Plain 0 2 2
zero_and_two = plain 2 (search rules)

-- ---- one step, where the sum of these two is this

module _ (k n m : ℕ) (sums : Plain k n m) where
  block_is : (names : Bindings) → get names t ≡ Some (number k) → get names x ≡ Some (number n) → block_run running_body (first_run names) ≡ done (insert names t (number m)) (emits (number m))
  block_is names has is =
      let more : Bindings = insert names t (number m) in
      ap (while_going (statement_run (s.Reduce 4 (codes "s") sum_of_t None)))
      (set_runs (first_run names) ∙ ap (λ o. with_value 3 o (naming t) (first_run names)) (sum_is (get names) k n has is ∙ sums))
      ∙ reduce_runs (first_run more)
      ∙ ap (λ o. with_value 4 o (emitting (codes "s")) (first_run more)) (input_is (get more) ∙ value_of-Name (get more) t ∙ ap bound (get_inserted names t t (number m)))

  abbrev begun : Bindings → ℕ → Bindings
  begun env place = insert (insert env place_name (Int (pos place))) x (number n)

  begun_has : (env : Bindings) (place : ℕ) → get env t ≡ Some (number k) → get (begun env place) t ≡ Some (number k)
  begun_has env place has = get_inserted (insert env place_name (Int (pos place))) x t (number n) ∙ get_inserted env place_name t (Int (pos place)) ∙ has

  pub step_is : (env : Bindings) (place : ℕ) → get env t ≡ Some (number k) → Emits (number m) (body_step running_sum env (number n) place)
  step_is env place has =
      let block = block_is (begun env place) (begun_has env place has) (get_inserted (insert env place_name (Int (pos place))) x x (number n)) in
      record { emitted = ap (λ (r : BodyRun). r.emitted) block; end = ap (λ (r : BodyRun). end_of (next_run r.flow)) block }

  pub left_is : (env : Bindings) (place : ℕ) → get env t ≡ Some (number k) → get (body_step running_sum env (number n) place).store t ≡ Some (number m)
  left_is env place has =
      let names : Bindings = begun env place in
      let block = block_is names (begun_has env place has) (get_inserted (insert env place_name (Int (pos place))) x x (number n)) in
      ap (λ (r : BodyRun). get (with_found env t (get r.names t)) t) block
      ∙ ap (λ o. get (with_found env t o) t) (get_inserted names t t (number m))
      ∙ get_inserted env t t (number m)

-- ---- its runs

begins : get (start_store running_sum) t ≡ Some (number 0)
begins = get_inserted empty t t (number 0)

pub carries : RunningSumCarries
carries nothing =
    let start : Bindings = start_store running_sum in
    let same =
    second_is running_sum (number 1) (number 2) 1 3 2 nothing (step_is 0 1 1 zero_and_one start 1 begins)
    (step_is 1 2 3 one_and_two (body_step running_sum start (number 1) 1).store 2 (left_is 0 1 1 zero_and_one start 1 begins)) (step_is 0 2 2 zero_and_two start 2 begins) in
    absurd (cc)

-- so it isn't legal
pub illegal : RunningSumIsIllegal
illegal legal = carries (legal_carries_nothing running_sum legal)

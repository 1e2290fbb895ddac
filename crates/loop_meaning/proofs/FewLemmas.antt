-- How many inputs a step of the body emits: at most 1,000,000 for each `@reduce` line.
use Rattle.std.proofs.Common.{◌≡◌, ℕ, suc, ◌+◌, ◌*◌, ◌<◌, ◌≤◌, Bool, true, false, List, [], ◌∷◌, length, map, Option, Some, None, Result, Ok, Err, refl, sym, subst, length-append, filter, cond, arith}
use Rattle.std.proofs.lemmas.List.{length-map}
use Rattle.std.specs.Str.{bytes_eq}
use Rattle.std.specs.Prelude.{if◌then◌else◌, nat_lt, IfOk, ℤ, pos}
use Rattle.std.specs.Ordering.{int_eq}
use Rattle.std.specs.FinMap.{get}
use Rattle.std.proofs.Math.Nat.{mul-le-mul, mul-le-mul_left, mul-le-mul_right, le_of_mul-le-mul_left}
use Rattle.loop_data.specs.declared.value.Value.{Value}
use Rattle.loop_data.specs.declared.value.Value.TheVariants.{Int}
use Rattle.loop_data.specs.declared.expr.Expr.{Expr}
use Rattle.loop_data.specs.declared.expr.RangeExpr.{RangeExpr}
use Rattle.loop_data.specs.declared.head.Inner.{Inner}
use Rattle.loop_grammar.specs.SkippedFaults.{skips_faults}
use Rattle.loop_grammar.specs.declared.tree.ProgramTree.{ProgramTree}
use Rattle.loop_values.specs.declared.stop.EvalStop.{EvalStop}
use Rattle.loop_values.specs.declared.stop.EvalStop.TheVariants.{TooManyInner, StepZero}
use Rattle.loop_values.specs.Bindings.{Names}
use Rattle.loop_values.specs.InnerItems.{allowed, inner_items, inner_limit, with_int, with_step as with_range_step}
use Rattle.number_ranges.specs.Ranges.{range_count, range_items}
use Rattle.number_ranges.proofs.Items.{length-items_from}
use Rattle.loop_values.specs.Operations.{Outcome}
use Rattle.loop_values.specs.Values.{value_of}
use Rattle.loop_meaning.specs.declared.steps.BodyRun.{BodyRun}
use Rattle.loop_meaning.specs.declared.steps.BodyEnd.{BodyEnd}
use Rattle.loop_meaning.specs.declared.steps.BodyEnd.TheVariants as end
use Rattle.loop_meaning.specs.declared.steps.Pair.{Pair}
use Rattle.loop_meaning.specs.declared.runs.Run.{Run}
use Rattle.loop_meaning.specs.Laws.{InputsAreFew, RunsEmitFew, StepsEmitAtMost, StepsEmitFew}
use Rattle.loop_meaning.specs.Reducers.{emitted_under, or_none, sites_of, start_of}
use Rattle.loop_meaning.specs.Runs.{loop_run, with_step}
use Rattle.loop_meaning.specs.Statements.{Action, in_turn, is_going, naming, while_going}
use Rattle.loop_meaning.specs.Steps.{Step, body_step, first_run, for_each, for_item, inner_runs, names_for, with_items}
use Rattle.loop_meaning.proofs.EmitLemmas.{block_emits}

-- ---- the items of an inner head, with those of the heads round it, are at most 1,000,000

abbrev Listed : Type 0
Listed = Result (List ℤ) EvalStop

abbrev Within : ℕ → Listed → Type 0
Within width r = IfOk r (λ items. width * length items ≤ 1000000)

not_over : (n : ℕ) → nat_lt inner_limit n ≡ false → n ≤ 1000000
not_over n e = grind arith

limited_within : (width : ℕ) (a s b : ℤ) (over : Bool) → nat_lt inner_limit (width * range_count a s b) ≡ over → Within width (if over then Err TooManyInner else Ok (range_items a s b))
limited_within width a s b true e = tt
limited_within width a s b false e =
    let most = not_over (width * range_count a s b) e in
    let count = length-items_from a s (range_count a s b) in
    subst (λ m. width * m ≤ 1000000) (sym count) most

allowed_within : (width : ℕ) (a s b : ℤ) (none : Bool) → Within width (if none then Err StepZero else (if nat_lt inner_limit (width * range_count a s b) then Err TooManyInner else Ok (range_items a s b)))
allowed_within width a s b true = tt
allowed_within width a s b false = limited_within width a s b (nat_lt inner_limit (width * range_count a s b)) refl

int_within : (width : ℕ) (o : Outcome) (f : ℤ → Listed) → ((n : ℤ) → Within width (f n)) → Within width (with_int o f)
int_within width (Ok v) f h = h _
int_within width (Err stop) f h = tt

step_within : (width : ℕ) (step : Option Expr) (names : Names) (f : ℤ → Listed) → ((n : ℤ) → Within width (f n)) → Within width (with_range_step step names f)
step_within width (Some x) names f h = int_within width (value_of x names) f h
step_within width None names f h = h _

range_within : (width : ℕ) (r : RangeExpr) (names : Names) → Within width (inner_items r names width)
range_within width r names =
    int_within width (value_of r.first names) _ (λ a.
    step_within width r.step names _ (λ s.
    int_within width (value_of r.last names) _ (λ b. allowed_within width a s b (int_eq s (pos 0)))))

-- ---- body runs

-- between the two at most n inputs were emitted, w times n being within the bound
abbrev Costs : ℕ → ℕ → BodyRun → BodyRun → Type 0
Costs w bound before after = (n : ℕ) × (length after.emitted ≤ length before.emitted + n) × (w * n ≤ bound)

one_turn : (w bound : ℕ) (action : Action) (run : BodyRun) (b : Bool) → Costs w bound run (action run) → Costs w bound run (if b then action run else run)
one_turn w bound action run true h = h
one_turn w bound action run false h = (0, omega arith, omega arith)

turns : (k w bound : ℕ) (action : ℤ → Action) → ((item : ℤ) (run : BodyRun) → Costs (w * k) bound run (action item run)) →
    (items : List ℤ) (run : BodyRun) → Costs (k * w) (length items * bound) run (in_turn (map action items) run)
turns k w bound action each [] run = (0, omega arith, omega arith)
turns k w bound action each (x ∷ xs) run =
    let first = one_turn (w * k) bound (action x) run (is_going run.flow) (each x run) in
    let rest = turns k w bound action each xs (while_going (action x) run) in
    (first.0 + rest.0, omega (arith, first.1, rest.1), omega (arith, first.2, rest.2))

module _ (program : ProgramTree) where
  abbrev bound : ℕ
  bound = 1000000 * length (sites_of program)

  abbrev AreFew : List Inner → Type 0
  AreFew heads = (width : ℕ) → 1 ≤ width → width ≤ 1000000 → (run : BodyRun) → Costs width bound run (inner_runs program heads width run)

  item_few : (heads : List Inner) (width : ℕ) → AreFew heads → 1 ≤ width → width ≤ 1000000 → (name : List ℕ) (item : ℤ) (run : BodyRun) →
      Costs width bound run (for_item program name (inner_runs program heads width) item run)
  item_few heads width few low high name item run = few width low high (naming name (Int item) run)

  items_few : (heads : List Inner) (width : ℕ) → AreFew heads → 1 ≤ width → (name : List ℕ) (items : List ℤ) (run : BodyRun) → width * length items ≤ 1000000 →
      Costs width bound run (for_each program name items (inner_runs program heads (width * length items)) run)
  items_few heads width few low name [] run high = (0, omega arith, omega arith)
  items_few heads width few low name (x ∷ xs) run high =
      let k = suc (length xs) in
      let least : 1 ≤ width * k = omega (arith, low) in
      let all = turns k width bound (for_item program name (inner_runs program heads (width * k))) (item_few heads (width * k) few least high name) (x ∷ xs) run in
      let scaled : k * (width * all.0) ≤ k * bound = omega (arith, all.2) in
      let some : 0 < k = omega arith in
      (all.0, all.1, le_of_mul-le-mul_left scaled some)

  head_few : (heads : List Inner) (width : ℕ) → AreFew heads → 1 ≤ width → (name : List ℕ) (run : BodyRun) (o : Result (List ℤ) EvalStop) → IfOk o (λ items. width * length items ≤ 1000000) →
      Costs width bound run (with_items program.head.line o (λ items. for_each program name items (inner_runs program heads (width * length items))) run)
  head_few heads width few low name run (Ok items) high = items_few heads width few low name items run high
  head_few heads width few low name run (Err stop) high = (0, omega arith, omega arith)

  heads_few : (heads : List Inner) → AreFew heads
  heads_few [] width low high run = (length (sites_of program), (block_emits program.body).most run, mul-le-mul_right (length (sites_of program)) high)
  heads_few (h ∷ hs) width low high run = head_few hs width (heads_few hs) low h.name run (inner_items h.range (get run.names) width) (range_within width h.range (get run.names))

pub steps_few : StepsEmitFew
steps_few program store item place =
    let few = heads_few program program.head.inner 1 (omega arith) (omega arith) (first_run (names_for program store item place)) in
    omega (arith, few.1, few.2)

-- ---- runs

step_of_few : (skips : Bool) (e : BodyEnd) (step : Step) (place count bound : ℕ) (rest : Run) → length step.emitted ≤ bound → length rest.emitted ≤ count * bound →
    length (with_step skips e step place rest).emitted ≤ suc count * bound
step_of_few skips end.Next step place count bound rest h r = omega (arith, h, r, length-append step.emitted rest.emitted)
step_of_few skips (end.Break line) step place count bound rest h r = omega (arith, h)
step_of_few true (end.Fault line kind) step place count bound rest h r = omega (arith, r)
step_of_few false (end.Fault line kind) step place count bound rest h r = omega (arith, h)

pub runs_few : RunsEmitFew
runs_few program store [] place = omega arith
runs_few program store (x ∷ xs) place =
    let step = body_step program store x place in
    step_of_few (skips_faults program) step.end step place (length xs) (bound program) (loop_run program step.store xs (place + 1)) (steps_few program store x place) (runs_few program step.store xs (place + 1))

-- ---- inputs

filtered_at : {A : Type 0} (p : A → Bool) (x : A) (xs : List A) (b : Bool) → length (filter p xs) ≤ length xs → length (cond b (x ∷ filter p xs) (filter p xs)) ≤ suc (length xs)
filtered_at p x xs true h = omega (arith, h)
filtered_at p x xs false h = omega (arith, h)

filtered_few : {A : Type 0} (p : A → Bool) (xs : List A) → length (filter p xs) ≤ length xs
filtered_few p [] = omega arith
filtered_few p (x ∷ xs) = filtered_at p x xs (p x) (filtered_few p xs)

under_few : (name : List ℕ) (emitted : List Pair) → length (emitted_under name emitted) ≤ length emitted
under_few name emitted = omega (arith, length-map (filter (λ x. bytes_eq x.name name) emitted) (λ (x : Pair). x.input), filtered_few (λ (x : Pair). bytes_eq x.name name) emitted)

or_none_few : (v : Option Value) → length (or_none v) ≤ 1
or_none_few None = omega arith
or_none_few (Some v) = omega arith

pub inputs_few : InputsAreFew
inputs_few program store items place name sites few =
    let run = loop_run program store items place in
    let all = runs_few program store items place in
    let most : length items * (1000000 * length (sites_of program)) ≤ 4294967296 * (1000000 * 64) = mul-le-mul few (mul-le-mul_left 1000000 sites) in
    omega (arith, all, most, or_none_few (start_of program name), under_few name run.emitted, length-append (or_none (start_of program name)) (emitted_under name run.emitted))

pub steps_at_most : StepsEmitAtMost
steps_at_most program store item place sites = omega (arith, steps_few program store item place, sites)

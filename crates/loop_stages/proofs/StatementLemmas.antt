-- What the stages of a statement before the split statement let through, and where the statement leaves a body run.
use Rattle.std.proofs.Common.{◌≡◌, ℕ, zero, suc, Bool, true, false, List, [], ◌∷◌, ◌++◌, map, Ok, Err, refl, sym, ap, ◌∙◌, subst, rules}
use Rattle.std.specs.Prelude.{if◌then◌else◌, not, ◌||◌}
use Rattle.std.specs.FinMap.{get}
use Rattle.loop_data.specs.declared.value.Value.{Value}
use Rattle.loop_data.specs.declared.value.Value.TheVariants.{Nothing}
use Rattle.loop_data.specs.declared.expr.Expr.{Expr}
use Rattle.loop_data.specs.declared.statement.Statement.{Statement, ind-Statement, fold-roll-Statement, map-Statement, roll-Statement, out-Statement, out-roll-Statement, the_lemmas as statement_lemmas}
use Rattle.loop_data.specs.declared.statement.Branch.{Branch}
use Rattle.loop_data.specs.declared.statement.Statement.TheOpen.{Statement-F, Statement-F as s}
use Rattle.loop_values.specs.declared.ranges.InnerRange.{InnerRange}
use Rattle.loop_values.specs.Bindings.{Bindings}
use Rattle.loop_data.specs.ValueParts.{as_bool}
use Rattle.loop_values.specs.Operations.{Outcome}
use Rattle.loop_values.specs.Values.{value_of}
use Rattle.loop_meaning.specs.declared.steps.BodyRun.{BodyRun}
use Rattle.loop_meaning.specs.declared.steps.Pair.{Pair}
use Rattle.loop_meaning.specs.declared.steps.Flow.{Flow}
use Rattle.loop_meaning.specs.declared.steps.Flow.TheVariants as flow
use Rattle.loop_meaning.specs.Statements.{Action, Choice, branch_run, branch_step, ending, evaluating, first_true, in_turn, keeping_something, matching, naming, statement_run, statement_step, while_going}
use Rattle.loop_meaning.specs.Statements as plain
use Rattle.chain_stages.specs.declared.element.Element.{Element}
use Rattle.chain_stages.specs.declared.element.Mark.TheVariants as mark
use Rattle.chain_stages.specs.declared.step_end.StepEnd.TheVariants.{Going, Ended, Fault}
use Rattle.chain_stages.specs.declared.stages.Doing.TheVariants.{Bind}
use Rattle.chain_stages.specs.declared.stages.Stage.{Stage}
use Rattle.chain_stages.specs.declared.stages.Stage.TheVariants.{Map, Filter, KeepSomething, ReduceIf}
use Rattle.chain_stages.specs.declared.stages.Test.TheVariants as test
use Rattle.chain_stages.specs.Chains.{chain_output, followed_by}
use Rattle.chain_stages.specs.Elements.{binding, left_by, run_of, without_pairs}
use Rattle.loop_stages.specs.Holding.{in_branch, in_parts, holds, is_break, is_exit, is_reduce}
use Rattle.loop_stages.specs.Lowering.{IfForm, any_other, block_form, let_stages, breaks, continues, if_form, if_line, if_stages, is_continue, is_one_break, layer_stages, line_at, line_of, statement_stages, where_holds}
use Rattle.chain_stages.specs.Stages.{Output, after_flow, alone, filtered, kept, nothing, reduced_if, splatted, truth, untruth, with_value}
use Rattle.loop_stages.proofs.HoldLemmas.{Lines, statement_safe}

-- an element that goes on
abbrev pub at : Bindings → ℕ → InnerRange → List Pair → Element
at names width inner emitted = record { env = names; width = width; mark = mark.Going; inner = inner; emitted = emitted }

-- what comes of an element where a statement before the split statement, which has this line, ended so and left the body run
-- there
abbrev pub Comes : ℕ → Flow → BodyRun → Element → Output → Type 0
Comes own flow.Going run e o = o ≡ alone (left_by run mark.Going e)
Comes own flow.Continued run e o = o ≡ nothing Going
Comes own (flow.Broke line) run e o = o ≡ nothing (Ended own)
Comes own (flow.Faulted line kind) run e o = o ≡ nothing (Fault line kind)

abbrev pub Meets : ℕ → BodyRun → Element → Output → Type 0
Meets own run e o = Comes own run.flow run e o

-- a list of one stage
abbrev one : Output → Output
one o = followed_by o (nothing Going)

pub by_layer : (P : Statement → Type 0) → ((w : Statement-F Statement Branch) → P (roll-Statement w)) → (x : Statement) → P x
by_layer P h = ind-Statement P (λ b. Unit {0}) (λ x y is. h x) (λ x y is. tt)

abbrev RunOf : Statement-F Statement Branch → Action
RunOf w = statement_step (map-Statement Statement Branch Action Choice statement_run branch_run w)

run_rolled : (w : Statement-F Statement Branch) → statement_run (roll-Statement w) ≡ RunOf w
run_rolled w = fold-roll-Statement Action Choice statement_step branch_step w

-- ---- lines that end what is going on

abbrev Unbroken : Flow → Type 0
Unbroken flow.Going = Unit {0}
Unbroken flow.Continued = Unit {0}
Unbroken (flow.Broke line) = ⊥
Unbroken (flow.Faulted line kind) = Unit {0}

abbrev Unended : Flow → Type 0
Unended flow.Going = Unit {0}
Unended flow.Continued = ⊥
Unended (flow.Broke line) = ⊥
Unended (flow.Faulted line kind) = Unit {0}

break_lines : Lines is_break (λ run. Unbroken run.flow)
break_lines = record {
  named = λ run names p. p;
  faulted = λ run line kind p. tt;
  kept = λ line name x h run p. tt;
  reduced = λ line name tower start h run v p. p;
  continued = λ line h run p. tt;
  broke = λ line h run p. absurd (cc (h));
}

exit_lines : Lines is_exit (λ run. Unended run.flow)
exit_lines = record {
  named = λ run names p. p;
  faulted = λ run line kind p. tt;
  kept = λ line name x h run p. absurd (cc (h));
  reduced = λ line name tower start h run v p. p;
  continued = λ line h run p. absurd (cc (h));
  broke = λ line h run p. absurd (cc (h));
}

emit_lines : (emitted : List Pair) → Lines is_reduce (λ run. run.emitted ≡ emitted)
emit_lines emitted = record {
  named = λ run names p. p;
  faulted = λ run line kind p. p;
  kept = λ line name x h run p. p;
  reduced = λ line name tower start h run v p. absurd (cc (h));
  continued = λ line h run p. p;
  broke = λ line h run p. p;
}

-- a statement that holds no `@reduce` emits nothing
pub emits_nothing : (x : Statement) → holds is_reduce x ≡ false → (run : BodyRun) → (statement_run x run).emitted ≡ run.emitted
emits_nothing x h run = (statement_safe is_reduce (λ run'. run'.emitted ≡ run.emitted) (emit_lines run.emitted) x h).stays run
    refl

-- ---- each form

module _ (names : Bindings) (width : ℕ) (range : InnerRange) (emitted : List Pair) where
  abbrev e : Element
  e = at names width range emitted

  -- a value, and what is done with it
  valued : (line : ℕ) (o : Outcome) (next : Value → Action) (f : Value → Output) →
      ((v : Value) → Meets line (next v (run_of e)) e (one (f v))) →
      Meets line (plain.with_value line o next (run_of e)) e (one (with_value line o f))
  valued line (Ok v) next f h = h v
  valued line (Err stop) next f h = refl

  kept_comes : (own : ℕ) (name : List ℕ) (v : Value) → Meets own (keeping_something name v (run_of e)) e (one (kept name e v))
  kept_comes own name Nothing = refl
  kept_comes own name v = refl

  -- a condition over one `continue`
  continues_if : (line : ℕ) (b : Bool) →
      Meets line ((if b then ending flow.Continued else in_turn []) (run_of e)) e (one (filtered line (Ok (not b)) e))
  continues_if line true = refl
  continues_if line false = refl

  continues_comes : (line : ℕ) (o : Outcome) →
      Meets line (plain.with_value line o (λ v. if as_bool v then ending flow.Continued else in_turn []) (run_of e)) e
      (one (filtered line (untruth o) e))
  continues_comes line (Err stop) = refl
  continues_comes line (Ok v) = continues_if line (as_bool v)

  -- a condition over one `break`
  breaks_if : (line l : ℕ) (c : Expr) (v : Value) (b : Bool) → value_of c (get names) ≡ Ok v → as_bool v ≡ b →
      Meets line ((if b then ending (flow.Broke l) else in_turn []) (run_of e)) e
      (chain_output (Filter line (test.IfNot c) ∷ []) (one (reduced_if line (Ok b) e)))
  breaks_if line l c v true is so =
      let o : filtered line (untruth (value_of c (get names))) e ≡ nothing Going = ap (λ o. filtered line (untruth o) e) is
      ∙ ap (λ b. filtered line (Ok (not b)) e) so in
      ap (λ o. followed_by o (nothing (Ended line))) o
  breaks_if line l c v false is so =
      let o : filtered line (untruth (value_of c (get names))) e ≡ alone e = ap (λ o. filtered line (untruth o) e) is
      ∙ ap (λ b. filtered line (Ok (not b)) e) so in
      ap one o

  breaks_comes : (line l : ℕ) (c : Expr) (o : Outcome) → value_of c (get names) ≡ o →
      Meets line (plain.with_value line o (λ v. if as_bool v then ending (flow.Broke l) else in_turn []) (run_of e)) e
      (chain_output (Filter line (test.IfNot c) ∷ []) (one (reduced_if line (truth o) e)))
  breaks_comes line l c (Err stop) is = refl
  breaks_comes line l c (Ok v) is = breaks_if line l c v (as_bool v) is refl

  -- a block with the stages after it
  block_comes : (line : ℕ) (run : BodyRun) (f : Flow) (b x : Bool) → (b ≡ false → Unbroken f) → (x ≡ false → Unended f) →
      Comes line f run e (chain_output (where_holds b (ReduceIf line test.Broke) ++ where_holds x (Filter line test.Going))
      (one (after_flow f run e)))
  block_comes line run flow.Going true true h k = refl
  block_comes line run flow.Going true false h k = refl
  block_comes line run flow.Going false true h k = refl
  block_comes line run flow.Going false false h k = refl
  block_comes line run flow.Continued b false h k = absurd (k refl)
  block_comes line run flow.Continued true true h k = refl
  block_comes line run flow.Continued false true h k = refl
  block_comes line run (flow.Broke l) false x h k = absurd (h refl)
  block_comes line run (flow.Broke l) true false h k = absurd (k refl)
  block_comes line run (flow.Broke l) true true h k = refl
  block_comes line run (flow.Faulted l kind) true true h k = refl
  block_comes line run (flow.Faulted l kind) true false h k = refl
  block_comes line run (flow.Faulted l kind) false true h k = refl
  block_comes line run (flow.Faulted l kind) false false h k = refl

  other_comes : (line : ℕ) (x : Statement) → holds is_reduce x ≡ false →
      Meets line (statement_run x (run_of e)) e (chain_output (if_stages line any_other x) (alone e))
  other_comes line x none =
      let run = statement_run x (run_of e) in
      let o = chain_output (if_stages line any_other x) (alone e) in
      let P : List Pair → Type 0 = λ pairs. Comes line run.flow
      (record { names = run.names; emitted = pairs; flow = run.flow }) e o in
      subst P (sym (emits_nothing x none (run_of e)))
      (block_comes line (without_pairs e run) run.flow (holds is_break x) (holds is_exit x)
      (λ h. (statement_safe is_break (λ run. Unbroken run.flow) break_lines x h).stays (run_of e) tt)
      (λ h. (statement_safe is_exit (λ run. Unended run.flow) exit_lines x h).stays (run_of e) tt))

  -- ---- any `if`

  -- what an `if` of this form is, where a body run goes on
  abbrev Means : ℕ → Statement → IfForm → Type 0
  Means line x (continues c) = statement_run x (run_of e)
      ≡ evaluating line (value_of c) (λ v. if as_bool v then ending flow.Continued else in_turn []) (run_of e)
  Means line x (breaks c) = (l : ℕ)
      × (statement_run x (run_of e) ≡ evaluating line (value_of c)
      (λ v. if as_bool v then ending (flow.Broke l) else in_turn []) (run_of e))
  Means line x any_other = Unit {0}

  form_comes : (line : ℕ) (x : Statement) (form : IfForm) → holds is_reduce x ≡ false → Means line x form →
      Meets line (statement_run x (run_of e)) e (chain_output (if_stages line form x) (alone e))
  form_comes line x (continues c) none m =
      subst (λ run. Meets line run e (chain_output (if_stages line (continues c) x) (alone e))) (sym m)
      (continues_comes line (value_of c (get names)))
  form_comes line x (breaks c) none m = subst (λ run. Meets line run e (chain_output (if_stages line (breaks c) x) (alone e)))
      (sym m.1) (breaks_comes line m.0 c (value_of c (get names)) refl)
  form_comes line x any_other none m = other_comes line x none

  one_continue : (y : Statement) → is_continue (out-Statement y) ≡ true → statement_run y ≡ ending flow.Continued
  one_continue = by_layer (λ y. is_continue (out-Statement y) ≡ true → statement_run y ≡ ending flow.Continued)
      (λ w h. run_rolled w ∙ at_layer w (subst (λ w. is_continue w ≡ true) (out-roll-Statement w) h))
    where
      at_layer : (w : Statement-F Statement Branch) → is_continue w ≡ true → RunOf w ≡ ending flow.Continued
      at_layer (s.Continue line) h = refl
      at_layer (s.Let line ns x) h = absurd (cc (h))
      at_layer (s.Set line n x) h = absurd (cc (h))
      at_layer (s.If line bs el other end_line) h = absurd (cc (h))
      at_layer (s.Keep line n x) h = absurd (cc (h))
      at_layer (s.Reduce line n t st) h = absurd (cc (h))
      at_layer (s.Break line) h = absurd (cc (h))

  one_break : (y : Statement) → is_one_break (out-Statement y) ≡ true → (l : ℕ) × (statement_run y ≡ ending (flow.Broke l))
  one_break = by_layer (λ y. is_one_break (out-Statement y) ≡ true → (l : ℕ) × (statement_run y ≡ ending (flow.Broke l)))
      (λ w h. let found = at_layer w (subst (λ w. is_one_break w ≡ true) (out-roll-Statement w) h) in
      (found.0, run_rolled w ∙ found.1))
    where
      at_layer : (w : Statement-F Statement Branch) → is_one_break w ≡ true → (l : ℕ) × (RunOf w ≡ ending (flow.Broke l))
      at_layer (s.Break line) h = (line, refl)
      at_layer (s.Let line ns x) h = absurd (cc (h))
      at_layer (s.Set line n x) h = absurd (cc (h))
      at_layer (s.If line bs el other end_line) h = absurd (cc (h))
      at_layer (s.Keep line n x) h = absurd (cc (h))
      at_layer (s.Reduce line n t st) h = absurd (cc (h))
      at_layer (s.Continue line) h = absurd (cc (h))

  block_of_one_if : (a : Action) (b : Bool) → (if b then in_turn (a ∷ []) else in_turn []) (run_of e)
      ≡ (if b then a else in_turn []) (run_of e)
  block_of_one_if a true = refl
  block_of_one_if a false = refl

  -- a block of one statement
  block_of_one : (line : ℕ) (o : Outcome) (a : Action) →
      plain.with_value line o (λ v. if as_bool v then in_turn (a ∷ []) else in_turn []) (run_of e)
      ≡ plain.with_value line o (λ v. if as_bool v then a else in_turn []) (run_of e)
  block_of_one line (Err stop) a = refl
  block_of_one line (Ok v) a = block_of_one_if a (as_bool v)

  abbrev RunsBlock : ℕ → Statement → Expr → List Statement → Type 0
  RunsBlock line x c block = statement_run x (run_of e)
      ≡ evaluating line (value_of c) (λ v. if as_bool v then in_turn (map statement_run block) else in_turn []) (run_of e)

  with_one : (line : ℕ) (x : Statement) (c : Expr) (y : Statement) (a : Action) → statement_run y ≡ a →
      RunsBlock line x c (y ∷ []) →
      statement_run x (run_of e) ≡ evaluating line (value_of c) (λ v. if as_bool v then a else in_turn []) (run_of e)
  with_one line x c y a is runs =
      runs ∙ block_of_one line (value_of c (get names)) (statement_run y)
      ∙ ap (λ (a : Action). evaluating line (value_of c) (λ v. if as_bool v then a else in_turn []) (run_of e)) is

  one_means : (line : ℕ) (x : Statement) (c : Expr) (y : Statement) (p q : Bool) → is_continue (out-Statement y) ≡ p →
      is_one_break (out-Statement y) ≡ q → RunsBlock line x c (y ∷ []) →
      Means line x (if p then continues c else (if q then breaks c else any_other))
  one_means line x c y true q is so runs = with_one line x c y (ending flow.Continued) (one_continue y is) runs
  one_means line x c y false true is so runs = let found = one_break y so in
      (found.0, with_one line x c y (ending (flow.Broke found.0)) found.1 runs)
  one_means line x c y false false is so runs = tt

  block_means : (line : ℕ) (x : Statement) (c : Expr) (block : List Statement) → RunsBlock line x c block →
      Means line x (block_form c block)
  block_means line x c [] runs = tt
  block_means line x c (y ∷ []) runs =
      one_means line x c y (is_continue (out-Statement y)) (is_one_break (out-Statement y)) refl refl runs
  block_means line x c (y ∷ z ∷ zs) runs = tt

  branch_does : (b : Branch) (other : Action) →
      branch_run b other ≡ evaluating b.line (value_of b.test)
      (λ v. if as_bool v then in_turn (map statement_run b.block) else other)
  branch_does b other = search (rules, statement_lemmas)

  if_means : (line : ℕ) (branches : List Branch) (else_line : ℕ) (other : List Statement) (end_line : ℕ) →
      Means (if_line line branches) (roll-Statement (s.If line branches else_line other end_line))
      (if_form branches else_line other)
  if_means line [] else_line other end_line = tt
  if_means line (b ∷ c ∷ bs) else_line other end_line = tt
  if_means line (b ∷ []) (suc n) other end_line = tt
  if_means line (b ∷ []) zero (y ∷ ys) end_line = tt
  if_means line (b ∷ []) zero [] end_line =
      let x = roll-Statement (s.If line (b ∷ []) zero [] end_line) in
      block_means b.line x b.test b.block
      (ap (λ (action : Action). action (run_of e)) (run_rolled (s.If line (b ∷ []) zero [] end_line))
      ∙ ap (λ (action : Action). action (run_of e)) (branch_does b (in_turn [])))

  -- ---- any statement without an `@reduce`

  rolled_comes : (w : Statement-F Statement Branch) (stages : List Stage) →
      Meets (line_at w) (RunOf w (run_of e)) e (chain_output stages (alone e)) →
      Meets (line_at w) (statement_run (roll-Statement w) (run_of e)) e (chain_output stages (alone e))
  rolled_comes w stages m = subst (λ (action : Action). Meets (line_at w) (action (run_of e)) e (chain_output stages (alone e)))
      (sym (run_rolled w)) m

  let_comes : (line : ℕ) (ns : List (List ℕ)) (x : Expr) →
      Meets line (evaluating line (value_of x) (matching ns) (run_of e)) e (chain_output (let_stages line ns x) (alone e))
  let_comes line [] x = valued line (value_of x (get names)) (matching []) (λ v. alone (splatted [] v e)) (λ v. refl)
  let_comes line (n ∷ []) x = valued line (value_of x (get names)) (matching (n ∷ [])) (λ v. alone (binding n v e)) (λ v. refl)
  let_comes line (n ∷ m ∷ ms) x =
      valued line (value_of x (get names)) (matching (n ∷ m ∷ ms)) (λ v. alone (splatted (n ∷ m ∷ ms) v e)) (λ v. refl)

  layer_comes : (w : Statement-F Statement Branch) → holds is_reduce (roll-Statement w) ≡ false →
      Meets (line_at w) (statement_run (roll-Statement w) (run_of e)) e
      (chain_output (layer_stages w (roll-Statement w)) (alone e))
  layer_comes (s.Let line ns x) h = rolled_comes (s.Let line ns x) (let_stages line ns x) (let_comes line ns x)
  layer_comes (s.Set line n x) h =
      rolled_comes (s.Set line n x) (Map line (Bind n x) ∷ [])
      (valued line (value_of x (get names)) (naming n) (λ v. alone (binding n v e)) (λ v. refl))
  layer_comes (s.If line bs el other end_line) h =
      form_comes (if_line line bs) (roll-Statement (s.If line bs el other end_line)) (if_form bs el other) h
      (if_means line bs el other end_line)
  layer_comes (s.Keep line n x) h =
      rolled_comes (s.Keep line n x) (KeepSomething line n x ∷ [])
      (valued line (value_of x (get names)) (keeping_something n) (kept n e) (kept_comes line n))
  layer_comes (s.Reduce line n t st) h =
      absurd (cc (h, fold-roll-Statement Bool Bool (λ layer. is_reduce layer || in_parts layer) in_branch (s.Reduce line n t st)))
  layer_comes (s.Continue line) h = rolled_comes (s.Continue line) (Filter line test.Never ∷ []) refl
  layer_comes (s.Break line) h = rolled_comes (s.Break line) (ReduceIf line test.Always ∷ Filter line test.Never ∷ []) refl

  -- what the stages of a statement let through, and where the statement leaves the body run
  pub statement_comes : (x : Statement) → holds is_reduce x ≡ false →
      Meets (line_of x) (statement_run x (run_of e)) e (chain_output (statement_stages x) (alone e))
  statement_comes = by_layer (λ x. holds is_reduce x ≡ false →
      Meets (line_of x) (statement_run x (run_of e)) e (chain_output (statement_stages x) (alone e)))
      (λ w h. subst (λ layer. Meets (line_at layer) (statement_run (roll-Statement w) (run_of e)) e
      (chain_output (layer_stages layer (roll-Statement w)) (alone e))) (sym (out-roll-Statement w)) (layer_comes w h))

-- What the stages of a body let through for one element, and the body run from where the element stands.
use Rattle.std.proofs.Common.{◌≡◌, ℕ, zero, suc, Bool, true, false, List, [], ◌∷◌, ◌++◌, map, refl, sym, ap, ◌∙◌, subst, append-nil}
use Rattle.std.specs.Prelude.{if◌then◌else◌}
use Rattle.loop_data.specs.declared.statement.Statement.{Statement}
use Rattle.loop_values.specs.declared.ranges.InnerRange.{InnerRange}
use Rattle.loop_values.specs.Bindings.{Bindings}
use Rattle.loop_meaning.specs.declared.steps.BodyRun.{BodyRun}
use Rattle.loop_meaning.specs.declared.steps.Pair.{Pair}
use Rattle.loop_meaning.specs.declared.steps.Flow.{Flow}
use Rattle.loop_meaning.specs.declared.steps.Flow.TheVariants as flow
use Rattle.loop_meaning.specs.Statements.{Action, block_run, in_turn, is_going, statement_run}
use Rattle.chain_stages.specs.declared.element.Element.{Element}
use Rattle.chain_stages.specs.declared.step_end.StepEnd.TheVariants.{Going, Ended, Fault}
use Rattle.chain_stages.specs.declared.stages.Stage.{Stage}
use Rattle.chain_stages.specs.declared.stages.Stage.TheVariants.{ReduceIf}
use Rattle.chain_stages.specs.declared.stages.Test.TheVariants as test
use Rattle.chain_stages.specs.Chains.{chain_output, followed_by}
use Rattle.chain_stages.specs.Elements.{emitted_by, run_of}
use Rattle.chain_stages.specs.Stages.{Output, after_flow, alone, nothing}
use Rattle.chain_stages.proofs.ChainLemmas.{chain_append, chain_nothing}
use Rattle.loop_stages.specs.Breaks.{stage_line_in}
use Rattle.loop_stages.specs.Holding.{hold_break, holds, is_break_on, is_reduce}
use Rattle.loop_stages.specs.Lowering.{body_stages, line_of, rest_stages, statement_stages}
use Rattle.loop_stages.proofs.BreakLemmas.{block_holds, statement_holds}
use Rattle.loop_stages.proofs.LineLemmas.{ApartBreaks}
use Rattle.loop_stages.proofs.StatementLemmas.{Comes, Meets, at, emits_nothing, statement_comes}

-- a body run that begins with these names, after so much was emitted
abbrev pub standing : Bindings → List Pair → BodyRun
standing names emitted = record { names = names; emitted = emitted; flow = flow.Going }

-- What leaves a chain is what a body run emitted, and both end in the same way; told which stage each `break` is lowered to,
-- by their lines. At a fault what leaves the chain is a front of what the body run emitted.
abbrev pub Agrees : (ℕ → ℕ) → Flow → List Pair → Output → Type 0
Agrees stage flow.Going emitted o = (o.end ≡ Going) × (emitted ≡ emitted_by o.elements)
Agrees stage flow.Continued emitted o = (o.end ≡ Going) × (emitted ≡ emitted_by o.elements)
Agrees stage (flow.Broke line) emitted o = (o.end ≡ Ended (stage line)) × (emitted ≡ emitted_by o.elements)
Agrees stage (flow.Faulted line kind) emitted o =
    (o.end ≡ Fault line kind) × ((more : List Pair) × (emitted ≡ emitted_by o.elements ++ more))

-- a `break` is lowered to another stage only on lines where no body run was broken
restaged : (stage other : ℕ → ℕ) (f : Flow) (emitted : List Pair) (o : Output) →
    ((line : ℕ) → f ≡ flow.Broke line → stage line ≡ other line) → Agrees stage f emitted o → Agrees other f emitted o
restaged stage other flow.Going emitted o same a = a
restaged stage other flow.Continued emitted o same a = a
restaged stage other (flow.Broke line) emitted o same a = (a.0 ∙ ap (λ l. Ended l) (same line refl), a.1)
restaged stage other (flow.Faulted line kind) emitted o same a = a

-- nothing more is done after a body run has ended
pub ended_stays : (actions : List Action) (run : BodyRun) → is_going run.flow ≡ false → in_turn actions run ≡ run
ended_stays [] run h = refl
ended_stays (action ∷ actions) run h =
    ap (in_turn actions) (ap (λ b. if b then action run else run) h) ∙ ended_stays actions run h

-- from the split statement on
rest_at : (line : ℕ) (f : Flow) (run : BodyRun) (e : Element) →
    Agrees (λ l. line) f run.emitted
    (chain_output (ReduceIf line test.Broke ∷ []) (followed_by (after_flow f run e) (nothing Going)))
rest_at line flow.Going run e = (refl, sym (append-nil run.emitted))
rest_at line flow.Continued run e = (refl, sym (append-nil run.emitted))
rest_at line (flow.Broke l) run e = (refl, sym (append-nil run.emitted))
rest_at line (flow.Faulted l kind) run e = (refl, (run.emitted, refl))

rest_agrees : (line : ℕ) (statements : List Statement) (e : Element) →
    Agrees (λ l. line) (block_run statements (run_of e)).flow (block_run statements (run_of e)).emitted
    (chain_output (rest_stages line statements) (alone e))
rest_agrees line statements e = rest_at line (block_run statements (run_of e)).flow (block_run statements (run_of e)) e

-- ---- the stage of a `break`

-- told whether the first statement is the split statement, and whether it holds the `break`
abbrev stage_if : (b c : Bool) → ℕ → ℕ → ℕ
stage_if b c own later = if b then own else (if c then own else later)

going_flow : (line : ℕ) → flow.Going ≡ flow.Broke line → ⊥
going_flow line e = absurd (cc (e))

own_stage : (b c : Bool) (own later : ℕ) → c ≡ true → stage_if b c own later ≡ own
own_stage true c own later h = refl
own_stage false true own later h = refl
own_stage false false own later h = absurd (cc (h))

later_stage : (b c : Bool) (own later : ℕ) → b ≡ false → (c ≡ true → ⊥) → later ≡ stage_if b c own later
later_stage true c own later h k = absurd (cc (h))
later_stage false true own later h k = absurd (k refl)
later_stage false false own later h k = refl

module _ (width : ℕ) (range : InnerRange) where
  -- the body run and the chain agree
  abbrev BodyAgrees : ℕ → List Statement → Bindings → Type 0
  BodyAgrees room body names =
      Agrees (stage_line_in room body) (block_run body (standing names [])).flow (block_run body (standing names [])).emitted
      (chain_output (body_stages room body) (alone (at names width range [])))

  abbrev GoesOn : (ℕ → ℕ) → List Statement → List Stage → BodyRun → Output → Type 0
  GoesOn stage xs stages run o = Agrees stage (block_run xs run).flow (block_run xs run).emitted (chain_output stages o)

  ended : (stage : ℕ → ℕ) (xs : List Statement) (stages : List Stage) (run : BodyRun) (o : Output) → is_going run.flow ≡ false →
      Agrees stage run.flow run.emitted (chain_output stages o) → GoesOn stage xs stages run o
  ended stage xs stages run o h a =
      subst (λ run. Agrees stage run.flow run.emitted (chain_output stages o)) (sym (ended_stays (map statement_run xs) run h)) a

  -- what holds of the stages of `break`s, told by which of a statement and those after it a body run was broken
  record Staged (x : Statement) (xs : List Statement) (room : ℕ) (stage : ℕ → ℕ) : Type 0 where
    pub here : (line : ℕ) → holds (is_break_on line) x ≡ true → line_of x ≡ stage line
    pub there : (line : ℕ) → hold_break line xs ≡ true → stage_line_in room xs line ≡ stage line

  staged : (room : ℕ) (x : Statement) (xs : List Statement) → ApartBreaks (x ∷ xs) → holds is_reduce x ≡ false →
      Staged x xs room (stage_line_in (suc room) (x ∷ xs))
  staged room x xs apart none = record {
    here = λ line h. sym (own_stage (holds is_reduce x) (holds (is_break_on line) x) (line_of x) (stage_line_in room xs line) h);
    there = λ line h. later_stage (holds is_reduce x) (holds (is_break_on line) x) (line_of x) (stage_line_in room xs line) none
        (λ k. apart.0 line k h);
  }

  -- after a statement that emitted nothing
  goes_on : (room : ℕ) (x : Statement) (xs : List Statement) (stage : ℕ → ℕ) → Staged x xs room stage → (before : Bindings) →
      ((names : Bindings) → BodyAgrees room xs names) →
      (f : Flow) (names : Bindings) (o : Output) → ((line : ℕ) → f ≡ flow.Broke line → holds (is_break_on line) x ≡ true) →
      Comes (line_of x) f (record { names = names; emitted = []; flow = f }) (at before width range []) o →
      GoesOn stage xs (body_stages room xs) (record { names = names; emitted = []; flow = f }) o
  goes_on room x xs stage s before rest flow.Going names o holds_it m =
      let whole = restaged (stage_line_in room xs) stage (block_run xs (standing names [])).flow
      (block_run xs (standing names [])).emitted (chain_output (body_stages room xs) (alone (at names width range [])))
      (λ line broke. s.there line (block_holds xs line (standing names []) (going_flow line) broke)) (rest names) in
      subst (GoesOn stage xs (body_stages room xs) (standing names [])) (sym m) whole
  goes_on room x xs stage s before rest flow.Continued names o holds_it m =
      let none = ap (chain_output (body_stages room xs)) m ∙ chain_nothing (body_stages room xs) Going in
      ended stage xs (body_stages room xs) _ o refl
      (ap (λ (o : Output). o.end) none, ap (λ (o : Output). emitted_by o.elements) (sym none))
  goes_on room x xs stage s before rest (flow.Broke line) names o holds_it m =
      let none = ap (chain_output (body_stages room xs)) m ∙ chain_nothing (body_stages room xs) (Ended (line_of x)) in
      ended stage xs (body_stages room xs) _ o refl (
        ap (λ (o : Output). o.end) none ∙ ap (λ l. Ended l) (s.here line (holds_it line refl)),
        ap (λ (o : Output). emitted_by o.elements) (sym none),
      )
  goes_on room x xs stage s before rest (flow.Faulted line kind) names o holds_it m =
      let none = ap (chain_output (body_stages room xs)) m ∙ chain_nothing (body_stages room xs) (Fault line kind) in
      ended stage xs (body_stages room xs) _ o refl
      (ap (λ (o : Output). o.end) none, ([], ap (λ (o : Output). emitted_by o.elements ++ []) (sym none)))

  after_statement : (room : ℕ) (x : Statement) (xs : List Statement) (stage : ℕ → ℕ) → Staged x xs room stage →
      (before : Bindings) → ((names : Bindings) → BodyAgrees room xs names) →
      (run : BodyRun) (o : Output) → run.emitted ≡ [] →
      ((line : ℕ) → run.flow ≡ flow.Broke line → holds (is_break_on line) x ≡ true) →
      Meets (line_of x) run (at before width range []) o → GoesOn stage xs (body_stages room xs) run o
  after_statement room x xs stage s before rest run o is holds_it m =
      let P : List Pair → Type 0 = λ emitted. Comes (line_of x) run.flow
      (record { names = run.names; emitted = emitted; flow = run.flow }) (at before width range []) o →
      GoesOn stage xs (body_stages room xs) (record { names = run.names; emitted = emitted; flow = run.flow }) o in
      subst P (sym is) (goes_on room x xs stage s before rest run.flow run.names o holds_it) m

  first_agrees : (room : ℕ) (x : Statement) (xs : List Statement) (names : Bindings) → ApartBreaks (x ∷ xs) →
      ((names : Bindings) → BodyAgrees room xs names) → (b : Bool) → holds is_reduce x ≡ b →
      Agrees (stage_line_in (suc room) (x ∷ xs)) (block_run (x ∷ xs) (standing names [])).flow
      (block_run (x ∷ xs) (standing names [])).emitted
      (chain_output (if b then rest_stages (line_of x) (x ∷ xs) else statement_stages x ++ body_stages room xs)
      (alone (at names width range [])))
  first_agrees room x xs names apart rest true h =
      let run = block_run (x ∷ xs) (standing names []) in
      restaged (λ l. line_of x) (stage_line_in (suc room) (x ∷ xs)) run.flow run.emitted
      (chain_output (rest_stages (line_of x) (x ∷ xs)) (alone (at names width range [])))
      (λ line broke. sym (ap (λ b. stage_if b (holds (is_break_on line) x) (line_of x) (stage_line_in room xs line)) h))
      (rest_agrees (line_of x) (x ∷ xs) (at names width range []))
  first_agrees room x xs names apart rest false h =
      let e = at names width range [] in
      let o = chain_output (statement_stages x) (alone e) in
      subst (λ (o : Output). Agrees (stage_line_in (suc room) (x ∷ xs)) (block_run (x ∷ xs) (standing names [])).flow
      (block_run (x ∷ xs) (standing names [])).emitted o)
      (sym (chain_append (statement_stages x) (body_stages room xs) (alone e)))
      (after_statement room x xs (stage_line_in (suc room) (x ∷ xs)) (staged room x xs apart h) names rest
      (statement_run x (standing names [])) o (emits_nothing x h (standing names []))
      (λ line broke. statement_holds x line (standing names []) (going_flow line) broke)
      (statement_comes names width range [] x h))

  pub body_agrees : (room : ℕ) (body : List Statement) → ApartBreaks body → (names : Bindings) → BodyAgrees room body names
  body_agrees room [] apart names = (refl, refl)
  body_agrees zero (x ∷ xs) apart names = rest_agrees (line_of x) (x ∷ xs) (at names width range [])
  body_agrees (suc room) (x ∷ xs) apart names =
      first_agrees room x xs names apart (body_agrees room xs apart.1) (holds is_reduce x) refl

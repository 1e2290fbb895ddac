-- Lowering is right: items through the chain, each alone, and the run of the plain loop.
use Rattle.std.proofs.Common.{◌≡◌, ◌≢◌, ℕ, ◌+◌, Bool, true, false, List, [], ◌∷◌, ◌++◌, refl, sym, ap, ◌∙◌, subst}
use Rattle.std.specs.Prelude.{pos}
use Rattle.std.specs.FinMap.{get, insert}
use Rattle.loop_data.specs.ValueParts.{parts_of}
use Rattle.loop_data.specs.declared.value.Value.{Value}
use Rattle.loop_data.specs.declared.value.Value.TheVariants.{Int}
use Rattle.loop_grammar.specs.SkippedFaults.{skips_faults}
use Rattle.loop_grammar.specs.WellFormed.{is_well_formed}
use Rattle.loop_grammar.specs.declared.tree.ProgramTree.{ProgramTree}
use Rattle.loop_values.specs.Bindings.{Bindings, place_name}
use Rattle.loop_values.proofs.BindingLaws.{get-bound, get-other}
use Rattle.legality_rules.specs.Offences.{IsLegal}
use Rattle.loop_meaning.specs.declared.steps.BodyRun.{BodyRun}
use Rattle.loop_meaning.specs.declared.steps.Pair.{Pair}
use Rattle.loop_meaning.specs.declared.steps.Flow.{Flow}
use Rattle.loop_meaning.specs.declared.steps.Flow.TheVariants as flow
use Rattle.loop_meaning.specs.declared.steps.BodyEnd.{BodyEnd}
use Rattle.loop_meaning.specs.declared.steps.BodyEnd.TheVariants as end
use Rattle.loop_meaning.specs.declared.runs.PlainStop.{PlainStop}
use Rattle.loop_meaning.specs.declared.runs.PlainStop.TheVariants as stop
use Rattle.loop_meaning.specs.declared.runs.Run.{Run}
use Rattle.loop_meaning.specs.Runs.{loop_run, with_step}
use Rattle.loop_meaning.specs.Statements.{with_parts, with_pattern}
use Rattle.loop_meaning.specs.Steps.{Step, body_step, end_of, first_run, inner_runs, names_for}
use Rattle.loop_meaning.specs.Stores.{start_store}
use Rattle.carries_nothing.specs.Alike.{IsReached, at_start, one_more}
use Rattle.carries_nothing.specs.Blocks.{Agree}
use Rattle.carries_nothing.specs.Bodies.{is_unseen}
use Rattle.carries_nothing.proofs.Cuts.{reached_steps}
use Rattle.chain_stages.specs.declared.step_end.StepEnd.{StepEnd}
use Rattle.chain_stages.specs.declared.step_end.StepEnd.TheVariants as step_end
use Rattle.chain_stages.specs.declared.stages.Source.TheVariants.{Item}
use Rattle.chain_stages.specs.declared.stages.Stage.{Stage}
use Rattle.chain_stages.specs.declared.stages.Stage.TheVariants.{MapSplat}
use Rattle.chain_stages.specs.Chains.{chain_output}
use Rattle.chain_stages.specs.Elements.{beginning, emitted_by, item_name, no_range, with_item}
use Rattle.chain_stages.specs.Stages.{Output, alone, or_nothing}
use Rattle.loop_stages.specs.Agreement.{IsAsRun, IsAsStep, SameEnd, SamePairs, SamePairsAt}
use Rattle.loop_stages.specs.Breaks.{stage_line}
use Rattle.loop_stages.specs.Items.{Taken, item_output, items_taken, with_item_output}
use Rattle.loop_stages.specs.Laws.{ItemsAreSteps, LoweringIsRight}
use Rattle.loop_stages.specs.Lowering.{body_stages, inner_stages, pattern_stages}
use Rattle.loop_stages.proofs.BodyLemmas.{standing}
use Rattle.loop_stages.proofs.HeadLemmas.{Behind, IsApart, heads_agree}
use Rattle.loop_stages.proofs.LegalLemmas.{legal_is_apart}
use Rattle.loop_stages.proofs.NameLemmas.{parts_alike}

-- a name that isn't unseen isn't `@item`
not_item : (program : ProgramTree) → is_unseen program item_name ≡ true → (n : List ℕ) → is_unseen program n ≡ false →
    n ≢ item_name
not_item program unseen n seen is = absurd (cc (seen, ap (is_unseen program) is, unseen))

module _ (program : ProgramTree) (facts : IsApart program) where
  abbrev rest : List Stage
  rest = inner_stages program.head.line program.head.inner ++ body_stages 64 program.body

  abbrev Alike : Bindings → Bindings → Type 0
  Alike names other = Agree (is_unseen program) names other

  abbrev HeadsBehind : Bindings → Output → List Stage → Type 0
  HeadsBehind names list stages =
      let run = inner_runs program program.head.inner 1 (standing names []) in
      Behind (stage_line program) [] run.flow run.emitted (chain_output stages list)

  heads : (names other : Bindings) → Alike names other → HeadsBehind names (alone (beginning other)) rest
  heads names other alike = heads_agree program facts program.head.inner facts.ranges facts.kept 1 no_range names other [] alike

  -- ---- the pattern

  -- an item that is taken apart
  splat_behind : (names : Bindings) (ns : List (List ℕ)) (item : Value) →
      HeadsBehind (with_parts names ns (parts_of item)) (alone (beginning (insert names item_name item)))
      (MapSplat program.head.line ns Item ∷ rest)
  splat_behind names ns item =
      let env = insert names item_name item in
      let found : or_nothing (get env item_name) ≡ item = ap or_nothing (get-bound names item_name item) in
      subst (λ v. HeadsBehind (with_parts names ns (parts_of item)) (alone (beginning (with_parts env ns (parts_of v)))) rest)
      (sym found)
      (heads (with_parts names ns (parts_of item)) (with_parts env ns (parts_of item))
      (λ n seen. parts_alike n ns (parts_of item) names env
      (sym (get-other names item_name n item (not_item program facts.unnamed n seen)))))

  pattern_behind : (names : Bindings) (ns : List (List ℕ)) (item : Value) →
      HeadsBehind (with_pattern names ns item) (alone (beginning (with_item names ns item)))
      (pattern_stages program.head.line ns ++ rest)
  pattern_behind names [] item = splat_behind names [] item
  pattern_behind names (m ∷ []) item = heads (insert names m item) (insert names m item) (λ n seen. refl)
  pattern_behind names (m ∷ k ∷ ms) item = splat_behind names (m ∷ k ∷ ms) item

  -- ---- one step from the start

  abbrev step_run : Value → ℕ → BodyRun
  step_run item place = inner_runs program program.head.inner 1 (first_run (names_for program (start_store program) item place))

  pub item_behind : (item : Value) (place : ℕ) →
      Behind (stage_line program) [] (step_run item place).flow (step_run item place).emitted (item_output program item place)
  item_behind item place = pattern_behind (insert (start_store program) place_name (Int (pos place))) program.head.names item

-- ---- one item

as_step : (program : ProgramTree) (f : Flow) (store : Bindings) (emitted : List Pair) (o : Output) →
    Behind (stage_line program) [] f emitted o →
    IsAsStep program (record { store = store; emitted = emitted; end = end_of f }) o
as_step program flow.Going store emitted o b = record { emitted = b.1; end = subst (SameEnd program end.Next) (sym b.0) tt }
as_step program flow.Continued store emitted o b = absurd b
as_step program (flow.Broke line) store emitted o b =
    record { emitted = b.1; end = subst (SameEnd program (end.Break line)) (sym b.0) refl }
as_step program (flow.Faulted line kind) store emitted o b =
    record { emitted = b.1; end = subst (SameEnd program (end.Fault line kind)) (sym b.0) (refl, refl) }

pub items_are_steps : ItemsAreSteps
items_are_steps program legal formed item place =
    let facts = legal_is_apart program legal formed in
    let run = step_run program facts item place in
    as_step program run.flow (body_step program (start_store program) item place).store run.emitted
    (item_output program item place) (item_behind program facts item place)

-- ---- runs

pairs_append : (how : PlainStop) (xs ys more others : List Pair) → xs ≡ ys → SamePairs how more others →
    SamePairs how (xs ++ more) (ys ++ others)
pairs_append stop.Ran xs ys more others e same = ap (λ zs. zs ++ more) e ∙ ap (λ zs. ys ++ zs) same
pairs_append (stop.Break place line) xs ys more others e same = ap (λ zs. zs ++ more) e ∙ ap (λ zs. ys ++ zs) same
pairs_append (stop.Fault place line kind) xs ys more others e same = tt

-- a step before a run, and an item before the others
item_first : (program : ProgramTree) (skips : Bool) (e : BodyEnd) (step : Step) (f : StepEnd) (pairs : List Pair) (place : ℕ)
    (run : Run) (items : Taken) →
    SamePairsAt e step.emitted pairs → SameEnd program e f → IsAsRun program run items →
    IsAsRun program (with_step skips e step place run) (with_item_output skips f pairs place items)
item_first program skips end.Next step step_end.Going pairs place run items p h same =
    record {
      emitted = pairs_append run.stop step.emitted pairs run.emitted items.emitted p same.emitted;
      left_out =
          same.left_out;
      stop = same.stop;
    }
item_first program skips end.Next step (step_end.Ended l) pairs place run items p h same = absurd h
item_first program skips end.Next step (step_end.Fault l k) pairs place run items p h same = absurd h
item_first program skips (end.Break line) step step_end.Going pairs place run items p h same = absurd h
item_first program skips (end.Break line) step (step_end.Ended l) pairs place run items p h same =
    record { emitted = p; left_out = refl; stop = (refl, h) }
item_first program skips (end.Break line) step (step_end.Fault l k) pairs place run items p h same = absurd h
item_first program skips (end.Fault line kind) step step_end.Going pairs place run items p h same = absurd h
item_first program skips (end.Fault line kind) step (step_end.Ended l) pairs place run items p h same = absurd h
item_first program true (end.Fault line kind) step (step_end.Fault l k) pairs place run items p h same =
    record { emitted = same.emitted; left_out = ap (λ n. n + 1) same.left_out; stop = same.stop }
item_first program false (end.Fault line kind) step (step_end.Fault l k) pairs place run items p h same =
    record { emitted = tt; left_out = refl; stop = (refl, h.0, h.1) }

from_reached : (program : ProgramTree) → IsLegal program → is_well_formed program ≡ true → (store : Bindings) →
    IsReached program store → (items : List Value) (place : ℕ) →
    IsAsRun program (loop_run program store items place) (items_taken program items place)
from_reached program legal formed store is [] place = record { emitted = refl; left_out = refl; stop = tt }
from_reached program legal formed store is (item ∷ items) place =
    let step = body_step program store item place in
    let o = item_output program item place in
    let at_first = items_are_steps program legal formed item place in
    let as_first = reached_steps program legal store is item place in
    let pairs : SamePairsAt step.end step.emitted (emitted_by o.elements) =
    subst (λ e. SamePairsAt e step.emitted (emitted_by o.elements)) (sym as_first.1)
    (subst (λ xs. SamePairsAt (body_step program (start_store program) item place).end xs (emitted_by o.elements))
    (sym as_first.0) at_first.emitted) in
    let ends : SameEnd program step.end o.end = subst (λ e. SameEnd program e o.end) (sym as_first.1) at_first.end in
    item_first program (skips_faults program) step.end step o.end (emitted_by o.elements) place
    (loop_run program step.store items (place + 1)) (items_taken program items (place + 1))
    pairs ends
    (from_reached program legal formed step.store (one_more is item place) items (place + 1))

pub lowering_is_right : LoweringIsRight
lowering_is_right program legal formed items place = from_reached program legal formed (start_store program) at_start items place

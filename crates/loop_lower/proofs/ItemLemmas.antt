-- One item through the chain, and its run from the start.
use Rattle.std.proofs.Common.{◌≡◌, ℕ, ◌+◌, Bool, true, false, List, [], ◌++◌, length, refl, sym, ap, ◌∙◌, subst, append-nil, length-append, pos, arith}
use Rattle.std.specs.FinMap.{insert}
use Rattle.loop_data.specs.declared.value.Value.{Value}
use Rattle.loop_data.specs.declared.value.Value.TheVariants.{Int}
use Rattle.loop_grammar.specs.SkippedFaults.{skips_faults}
use Rattle.loop_grammar.specs.WellFormed.{is_well_formed}
use Rattle.loop_grammar.specs.declared.tree.ProgramTree.{ProgramTree}
use Rattle.legality_rules.specs.Offences.{IsLegal}
use Rattle.loop_values.specs.Bindings.{Bindings, place_name}
use Rattle.loop_meaning.specs.declared.steps.BodyEnd.{BodyEnd}
use Rattle.loop_meaning.specs.declared.steps.BodyEnd.TheVariants as end
use Rattle.loop_meaning.specs.declared.steps.Pair.{Pair}
use Rattle.loop_meaning.specs.declared.runs.PlainStop.TheVariants as stop
use Rattle.loop_meaning.specs.declared.runs.Run.{Run}
use Rattle.loop_meaning.specs.Runs.{no_run, with_step}
use Rattle.loop_meaning.specs.Steps.{Step, body_step}
use Rattle.loop_meaning.specs.Stores.{start_store}
use Rattle.reducer_tower.specs.declared.named.Named.{Named}
use Rattle.reducer_tower.specs.declared.row.RowState.{RowState}
use Rattle.program_rows.specs.Pairs.{HaveRoom, TakeBehind, numbered, pairs_fit}
use Rattle.program_rows.proofs.PairLemmas.{fit_parts, take_none}
use Rattle.chain_stages.specs.declared.step_end.StepEnd.{StepEnd}
use Rattle.chain_stages.specs.declared.step_end.StepEnd.TheVariants.{Going, Ended, Fault}
use Rattle.chain_stages.specs.declared.stages.Stage.{Stage}
use Rattle.chain_stages.specs.Cats.{cats_follow}
use Rattle.chain_stages.specs.Chains.{chain_output}
use Rattle.chain_stages.specs.Elements.{beginning, emitted_by, with_item}
use Rattle.chain_stages.specs.Stages.{Output, alone}
use Rattle.transducer_kit.specs.Items.{MayFold}
use Rattle.loop_stages.specs.Agreement.{SameEnd, SamePairsAt}
use Rattle.loop_stages.specs.Breaks.{stage_line}
use Rattle.loop_stages.specs.Items.{item_output}
use Rattle.loop_stages.specs.Lowering.{lowered}
use Rattle.loop_stages.proofs.LoweringLemmas.{items_are_steps}
use Rattle.loop_lower.proofs.CatLemmas.{lowered_follows}
use Rattle.loop_lower.specs.Walked.{IsItemTaken, is_fault, item_run, names_at, step_pairs}
use Rattle.loop_lower.specs.declared.part.Walked.{Walked}

-- ---- the element that goes into the chain

pub same_names : (program : ProgramTree) (start names : Bindings) (pattern : List (List ℕ)) (item : Value) (place : ℕ) → start ≡ start_store program →
    pattern ≡ program.head.names → names ≡ with_item (insert start place_name (Int (pos place))) pattern item → names ≡ names_at program item place
same_names program start names pattern item place f g h =
    h ∙ ap (λ s. with_item (insert s place_name (Int (pos place))) pattern item) f ∙ ap (λ ns. with_item (insert (start_store program) place_name (Int (pos place))) ns item) g

pub same_output : (program : ProgramTree) (stages : List Stage) (names : Bindings) (item : Value) (place : ℕ) → stages ≡ lowered program →
    names ≡ names_at program item place → chain_output stages (alone (beginning names)) ≡ item_output program item place
same_output program stages names item place e f = λ i. chain_output (e i) (alone (beginning (f i)))

pub may_emit : (program : ProgramTree) (stages : List Stage) → stages ≡ lowered program → cats_follow false stages ≡ true
may_emit program stages e = subst (λ s. cats_follow false s ≡ true) (sym e) (lowered_follows program)

-- ---- the pairs of the chain

-- those that leave the chain are a front of those of the step
front : (e : BodyEnd) (emitted other : List Pair) → SamePairsAt e emitted other → (more : List Pair) × (emitted ≡ other ++ more)
front end.Next emitted other same = ([], same ∙ sym (append-nil other))
front (end.Break line) emitted other same = ([], same ∙ sym (append-nil other))
front (end.Fault line kind) emitted other same = same

-- so they may go into the states where those of the step may
pub may_fold : (program : ProgramTree) → IsLegal program → is_well_formed program ≡ true → (item : Value) (place : ℕ) (row : List Named) (state : RowState) (made : Output) →
    made ≡ item_output program item place → pairs_fit row (step_pairs program item place) ≡ true → HaveRoom row state (length (step_pairs program item place)) →
    MayFold row state (emitted_by made.elements)
may_fold program legal formed item place row state made is fit room =
    let step = body_step program (start_store program) item place in
    let same = items_are_steps program legal formed item place in
    let pairs = emitted_by (item_output program item place).elements in
    let (more, longer) = front step.end step.emitted pairs same.emitted in
    let fits = (fit_parts row pairs more (subst (λ xs. pairs_fit row xs ≡ true) longer fit)).0 in
    subst (λ (o : Output). MayFold row state (emitted_by o.elements)) (sym is)
    (fits, (room.0, room.1, omega (arith, room.2, ap length longer, length-append pairs more)))

-- ---- the run of an item

-- what the run of an item is where the fault in which its chain ended is skipped
pub record SkippedRun (run : Run) : Type 0 where
  pub emitted : run.emitted ≡ []
  pub skipped : run.skipped ≡ 1
  pub stop : run.stop ≡ stop.Ran

skipped_step : (program : ProgramTree) (e : BodyEnd) (step : Step) (f : StepEnd) (place : ℕ) → SameEnd program e f → is_fault f ≡ true → SkippedRun (with_step true e step place (no_run step.store))
skipped_step program end.Next step Going place h is = absurd (cc (is))
skipped_step program end.Next step (Ended l) place h is = absurd h
skipped_step program end.Next step (Fault l k) place h is = absurd h
skipped_step program (end.Break line) step Going place h is = absurd h
skipped_step program (end.Break line) step (Ended l) place h is = absurd (cc (is))
skipped_step program (end.Break line) step (Fault l k) place h is = absurd h
skipped_step program (end.Fault line kind) step Going place h is = absurd h
skipped_step program (end.Fault line kind) step (Ended l) place h is = absurd h
skipped_step program (end.Fault line kind) step (Fault l k) place h is = record { emitted = refl; skipped = refl; stop = refl }

pub skipped_item : (program : ProgramTree) → IsLegal program → is_well_formed program ≡ true → (item : Value) (place : ℕ) → skips_faults program ≡ true →
    is_fault (item_output program item place).end ≡ true → SkippedRun (item_run program item place)
skipped_item program legal formed item place skips is =
    let step = body_step program (start_store program) item place in
    let same = items_are_steps program legal formed item place in
    subst (λ b. SkippedRun (with_step b step.end step place (no_run step.store))) (sym skips)
    (skipped_step program step.end step (item_output program item place).end place same.end is)

-- what it is where its chain ended otherwise
abbrev pub Kept : ProgramTree → Run → ℕ → List Pair → StepEnd → Type 0
Kept program run place pairs Going = (run.stop ≡ stop.Ran) × (run.emitted ≡ pairs) × (run.skipped ≡ 0)
Kept program run place pairs (Ended l) = (own : ℕ) × (run.stop ≡ stop.Break place own) × (l ≡ stage_line program own) × (run.emitted ≡ pairs) × (run.skipped ≡ 0)
Kept program run place pairs (Fault line kind) = run.stop ≡ stop.Fault place line kind

kept_step : (program : ProgramTree) (skips : Bool) (e : BodyEnd) (step : Step) (f : StepEnd) (pairs : List Pair) (place : ℕ) → SamePairsAt e step.emitted pairs → SameEnd program e f →
    (is_fault f ≡ true → skips ≡ false) → Kept program (with_step skips e step place (no_run step.store)) place pairs f
kept_step program skips end.Next step Going pairs place p h is = (refl, append-nil step.emitted ∙ p, refl)
kept_step program skips end.Next step (Ended l) pairs place p h is = absurd h
kept_step program skips end.Next step (Fault l k) pairs place p h is = absurd h
kept_step program skips (end.Break line) step Going pairs place p h is = absurd h
kept_step program skips (end.Break line) step (Ended l) pairs place p h is = (line, refl, h, p, refl)
kept_step program skips (end.Break line) step (Fault l k) pairs place p h is = absurd h
kept_step program skips (end.Fault line kind) step Going pairs place p h is = absurd h
kept_step program skips (end.Fault line kind) step (Ended l) pairs place p h is = absurd h
kept_step program true (end.Fault line kind) step (Fault l k) pairs place p h is = absurd (cc (is refl))
kept_step program false (end.Fault line kind) step (Fault l k) pairs place p h is = λ i. stop.Fault place (h.0 i) (h.1 i)

pub kept_item : (program : ProgramTree) → IsLegal program → is_well_formed program ≡ true → (item : Value) (place : ℕ) →
    (is_fault (item_output program item place).end ≡ true → skips_faults program ≡ false) →
    Kept program (item_run program item place) place (emitted_by (item_output program item place).elements) (item_output program item place).end
kept_item program legal formed item place is =
    let step = body_step program (start_store program) item place in
    let same = items_are_steps program legal formed item place in
    kept_step program (skips_faults program) step.end step (item_output program item place).end (emitted_by (item_output program item place).elements) place same.emitted same.end is

-- ---- what an item does to a part

-- its pairs are in the states; after a fault that stops the loop nothing is asked of them
pub taken_kept : (program : ProgramTree) (row : List Named) (run : Run) (place : ℕ) (pairs : List Pair) (f : StepEnd) (before after : Walked) → Kept program run place pairs f →
    TakeBehind row before.state.row after.state.row (numbered row pairs) → after.state.skipped ≡ before.state.skipped → after.emitted ≡ [] → IsItemTaken program row run place before after f
taken_kept program row run place pairs Going before after k states skips emptied = (
  k.0,
  record {
    states = subst (λ xs. TakeBehind row before.state.row after.state.row (numbered row xs)) (sym k.1) states;
    skips = omega (arith, skips, k.2);
    emptied = emptied;
  },
)
taken_kept program row run place pairs (Ended l) before after k states skips emptied = (
  k.0,
  k.1,
  k.2,
  record {
    states = subst (λ xs. TakeBehind row before.state.row after.state.row (numbered row xs)) (sym k.3) states;
    skips = omega (arith, skips, k.4);
    emptied = emptied;
  },
)
taken_kept program row run place pairs (Fault l kind) before after k states skips emptied = k

-- the same of a chain that made this output: its end is that of the item's
pub taken_so : (program : ProgramTree) → IsLegal program → is_well_formed program ≡ true → (item : Value) (place : ℕ) (row : List Named) (made : Output) (f : StepEnd)
    (before after : Walked) → made ≡ item_output program item place → f ≡ made.end → (is_fault f ≡ true → skips_faults program ≡ false) →
    TakeBehind row before.state.row after.state.row (numbered row (emitted_by made.elements)) → after.state.skipped ≡ before.state.skipped → after.emitted ≡ [] →
    IsItemTaken program row (item_run program item place) place before after f
taken_so program legal formed item place row made f before after is ended none states skips emptied =
    let out = item_output program item place in
    let ends : f ≡ out.end = ended ∙ ap (λ (o : Output). o.end) is in
    let kept = kept_item program legal formed item place (λ faults. none (ap is_fault ends ∙ faults)) in
    let here = subst (λ (o : Output). TakeBehind row before.state.row after.state.row (numbered row (emitted_by o.elements))) is states in
    subst (IsItemTaken program row (item_run program item place) place before after) (sym ends)
    (taken_kept program row (item_run program item place) place (emitted_by out.elements) out.end before after kept here skips emptied)

-- its fault is skipped
taken_skipped : (program : ProgramTree) (row : List Named) (run : Run) (place : ℕ) (before after : Walked) → SkippedRun run → after.state.row ≡ before.state.row →
    after.state.skipped ≡ before.state.skipped + 1 → after.emitted ≡ [] → IsItemTaken program row run place before after Going
taken_skipped program row run place before after s states skips emptied = (
  s.stop,
  record {
    states = subst (λ xs. TakeBehind row before.state.row after.state.row (numbered row xs)) (sym s.emitted) (take_none row before.state.row after.state.row states);
    skips = omega (arith, skips, s.skipped);
    emptied = emptied;
  },
)

pub skipped_so : (program : ProgramTree) → IsLegal program → is_well_formed program ≡ true → (item : Value) (place : ℕ) (row : List Named) (made : Output) (f : StepEnd)
    (before after : Walked) → made ≡ item_output program item place → f ≡ made.end → is_fault f ≡ true → skips_faults program ≡ true →
    after.state.row ≡ before.state.row → after.state.skipped ≡ before.state.skipped + 1 → after.emitted ≡ [] →
    IsItemTaken program row (item_run program item place) place before after Going
skipped_so program legal formed item place row made f before after is ended faults skips =
    let fault : is_fault (item_output program item place).end ≡ true = sym (ap is_fault (ended ∙ ap (λ (o : Output). o.end) is)) ∙ faults in
    taken_skipped program row (item_run program item place) place before after (skipped_item program legal formed item place skips fault)

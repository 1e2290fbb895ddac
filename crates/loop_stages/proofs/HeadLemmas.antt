-- The inner heads: what leaves the chain from their stages on, and their body runs.
use Rattle.std.proofs.Common.{◌≡◌, ℕ, ◌*◌, true, List, [], ◌∷◌, ◌++◌, length, map, Ok, Err, refl, ap, sym, ◌∙◌, subst, append_assoc, append-nil}
use Rattle.std.specs.Prelude.{ℤ}
use Rattle.std.specs.FinMap.{get, insert}
use Rattle.loop_data.specs.declared.value.Value.TheVariants.{Int}
use Rattle.loop_data.specs.declared.head.Inner.{Inner as InnerHead}
use Rattle.loop_grammar.specs.declared.tree.ProgramTree.{ProgramTree}
use Rattle.loop_values.specs.declared.ranges.InnerRange.{InnerRange}
use Rattle.loop_values.specs.Bindings.{Bindings}
use Rattle.loop_values.specs.InnerItems.{Ranged, inner_items, items_of, items_or_fault, range_of}
use Rattle.loop_values.specs.Stops.{fault_number}
use Rattle.loop_values.proofs.RangeLemmas.{items_counted, range_items_of}
use Rattle.loop_meaning.specs.declared.steps.BodyRun.{BodyRun}
use Rattle.loop_meaning.specs.declared.steps.Pair.{Pair}
use Rattle.loop_meaning.specs.declared.steps.Flow.{Flow}
use Rattle.loop_meaning.specs.declared.steps.Flow.TheVariants as flow
use Rattle.loop_meaning.specs.Laws.{behind}
use Rattle.loop_meaning.specs.Statements.{Action, block_run}
use Rattle.loop_meaning.specs.Steps.{body_run, for_each, for_item, inner_runs, next_run, with_items}
use Rattle.loop_meaning.proofs.BehindLemmas.{blocks_emit_behind}
use Rattle.carries_nothing.specs.Blocks.{Agree}
use Rattle.carries_nothing.specs.Bodies.{KeptUnder, SameBody, SameRanges, is_unseen}
use Rattle.chain_stages.specs.declared.element.Element.{Element}
use Rattle.chain_stages.specs.declared.step_end.StepEnd.{StepEnd}
use Rattle.chain_stages.specs.declared.step_end.StepEnd.TheVariants.{Going, Ended, Fault}
use Rattle.chain_stages.specs.declared.stages.Stage.{Stage}
use Rattle.chain_stages.specs.declared.stages.Stage.TheVariants.{Cat}
use Rattle.chain_stages.specs.Chains.{after_end, chain_output, followed_by}
use Rattle.chain_stages.specs.Elements.{emitted_by, item_name}
use Rattle.chain_stages.specs.Stages.{Output, alone, nothing, output, spread, with_range}
use Rattle.chain_stages.proofs.ChainLemmas.{chain_nothing, chain_two}
use Rattle.loop_stages.specs.Breaks.{stage_line}
use Rattle.loop_stages.specs.Lowering.{body_stages, inner_stages}
use Rattle.loop_stages.proofs.BodyLemmas.{Agrees, body_agrees, ended_stays, standing}
use Rattle.loop_stages.proofs.LineLemmas.{ApartBreaks}
use Rattle.loop_stages.proofs.NameLemmas.{bound_alike}
use Rattle.loop_stages.proofs.StatementLemmas.{at}

-- What is needed of a program: that its bodies and inner ranges do the same from names that agree but for unseen ones, that
-- each item of an inner head leaves the names before it but for unseen ones, that `@item` is unseen, and that `break`s stand
-- on lines of their own.
pub record IsApart (program : ProgramTree) : Type 0 where
  pub bodies : (run other : BodyRun) → SameBody program run other →
      SameBody program (body_run program run) (body_run program other)
  pub ranges : SameRanges program program.head.inner
  pub kept : KeptUnder program program.head.inner
  pub unnamed : is_unseen program item_name ≡ true
  pub breaks : ApartBreaks program.body

-- What leaves a chain is what body runs emitted behind what was emitted before, and both end in the same way; told the stages of
-- `break`s. After body runs a `continue` ended no more than its own. At a fault what leaves the chain is a front of it.
abbrev pub Behind : (ℕ → ℕ) → List Pair → Flow → List Pair → Output → Type 0
Behind stage before flow.Going emitted o = (o.end ≡ Going) × (emitted ≡ before ++ emitted_by o.elements)
Behind stage before flow.Continued emitted o = ⊥
Behind stage before (flow.Broke line) emitted o = (o.end ≡ Ended (stage line)) × (emitted ≡ before ++ emitted_by o.elements)
Behind stage before (flow.Faulted line kind) emitted o =
    (o.end ≡ Fault line kind) × ((more : List Pair) × (emitted ≡ (before ++ emitted_by o.elements) ++ more))

-- one body run
next_behind : (stage : ℕ → ℕ) (before : List Pair) (f : Flow) (em emitted : List Pair) (o : Output) → emitted ≡ before ++ em →
    Agrees stage f em o → Behind stage before (next_run f) emitted o
next_behind stage before flow.Going em emitted o is a = (a.0, is ∙ ap (λ xs. before ++ xs) a.1)
next_behind stage before flow.Continued em emitted o is a = (a.0, is ∙ ap (λ xs. before ++ xs) a.1)
next_behind stage before (flow.Broke line) em emitted o is a = (a.0, is ∙ ap (λ xs. before ++ xs) a.1)
next_behind stage before (flow.Faulted line kind) em emitted o is a =
    (a.0, (a.1.0, is ∙ ap (λ xs. before ++ xs) a.1.1 ∙ sym (append_assoc before (emitted_by o.elements) a.1.0)))

-- a body run after so much was emitted is the body run alone, behind that
body_appends : (program : ProgramTree) (names : Bindings) (before : List Pair) → body_run program (standing names before)
    ≡ behind before (body_run program (standing names []))
body_appends program names before =
    ap (λ xs. body_run program (standing names xs)) (sym (append-nil before))
    ∙ ap (λ (run : BodyRun). record run { flow = next_run run.flow }) (blocks_emit_behind program.body before (standing names []))

-- ---- one output behind another

emitted_append : (xs ys : List Element) → emitted_by (xs ++ ys) ≡ emitted_by xs ++ emitted_by ys
emitted_append [] ys = refl
emitted_append (x ∷ xs) ys = ap (λ zs. x.emitted ++ zs) (emitted_append xs ys)
    ∙ sym (append_assoc x.emitted (emitted_by xs) (emitted_by ys))

joined : (before mid emitted : List Pair) (o more : Output) → mid ≡ before ++ emitted_by o.elements →
    emitted ≡ mid ++ emitted_by more.elements →
    emitted ≡ before ++ emitted_by (o.elements ++ more.elements)
joined before mid emitted o more is so =
    so ∙ ap (λ xs. xs ++ emitted_by more.elements) is ∙ append_assoc before (emitted_by o.elements) (emitted_by more.elements)
    ∙ ap (λ xs. before ++ xs) (sym (emitted_append o.elements more.elements))

join_behind : (stage : ℕ → ℕ) (before mid : List Pair) (f : Flow) (emitted : List Pair) (o more : Output) →
    mid ≡ before ++ emitted_by o.elements → Behind stage mid f emitted more →
    Behind stage before f emitted (output (o.elements ++ more.elements) more.end)
join_behind stage before mid flow.Going emitted o more is b = (b.0, joined before mid emitted o more is b.1)
join_behind stage before mid flow.Continued emitted o more is b = b
join_behind stage before mid (flow.Broke line) emitted o more is b = (b.0, joined before mid emitted o more is b.1)
join_behind stage before mid (flow.Faulted line kind) emitted o more is b =
    (b.0, (b.1.0, b.1.1 ∙ ap (λ xs. xs ++ b.1.0) (joined before mid (mid ++ emitted_by more.elements) o more is refl)))

-- what follows an output, told its end
follows : (o more : Output) (end : StepEnd) → o.end ≡ end → followed_by o more ≡ after_end end o more
follows o more end is = ap (λ end. after_end end o more) is

module _ (program : ProgramTree) (facts : IsApart program) where
  abbrev rest_of : List InnerHead → List Stage
  rest_of hs = inner_stages program.head.line hs ++ body_stages 64 program.body

  abbrev Alike : Bindings → Bindings → Type 0
  Alike names other = Agree (is_unseen program) names other

  -- the body runs and the chain agree
  abbrev RunBehind : Action → List Stage → Output → Bindings → List Pair → Type 0
  RunBehind action stages list names before =
      Behind (stage_line program) before (action (standing names before)).flow (action (standing names before)).emitted
      (chain_output stages list)

  abbrev HeadsAgree : List InnerHead → Type 0
  HeadsAgree hs = (width : ℕ) (range : InnerRange) (names other : Bindings) (before : List Pair) → Alike names other →
      RunBehind (inner_runs program hs width) (rest_of hs) (alone (at other width range [])) names before

  innermost : HeadsAgree []
  innermost width range names other before alike =
      let same = facts.bodies (standing names []) (standing other []) (record { emitted = refl; flow = refl; names = alike }) in
      let o = chain_output (body_stages 64 program.body) (alone (at other width range [])) in
      let run = body_run program (standing other []) in
      let own = body_run program (standing names before) in
      let appended = body_appends program names before in
      let flows : own.flow ≡ run.flow = ap (λ (run : BodyRun). run.flow) appended ∙ same.flow in
      let pairs : own.emitted ≡ before ++ run.emitted = ap (λ (run : BodyRun). run.emitted) appended
      ∙ ap (λ xs. before ++ xs) same.emitted in
      subst (λ f. Behind (stage_line program) before f own.emitted o) (sym flows)
      (next_behind (stage_line program) before (block_run program.body (standing other [])).flow run.emitted own.emitted o pairs
      (body_agrees width range 64 program.body facts.breaks other))

  -- ---- the items of one head

  -- each item leaves the names before it, but for unseen ones
  abbrev ItemsKeep : List InnerHead → List ℕ → Type 0
  ItemsKeep hs name = (run : BodyRun) (width : ℕ) (item : ℤ) →
      Agree (is_unseen program) run.names (for_item program name (inner_runs program hs width) item run).names

  module _ (hs : List InnerHead) (name : List ℕ) (width : ℕ) (range : InnerRange) (agree : HeadsAgree hs)
      (kept : ItemsKeep hs name) where
    abbrev action : Action
    action = inner_runs program hs width

    abbrev spread_at : Bindings → ℤ → Element
    spread_at other item = at (insert other name (Int item)) width range []

    abbrev EachAgrees : List ℤ → Bindings → Bindings → List Pair → Type 0
    EachAgrees items names other before =
        RunBehind (for_each program name items action) (rest_of hs) (output (map (spread_at other) items) Going) names before

    -- the items after one whose body runs stand so
    later : (items : List ℤ) (other : Bindings) (before : List Pair) (o : Output) →
        ((names : Bindings) (mid : List Pair) → Alike names other → EachAgrees items names other mid) →
        (f : Flow) (names : Bindings) (emitted : List Pair) → Alike names other → Behind (stage_line program) before f emitted o →
        Behind (stage_line program) before
        (for_each program name items action (record { names = names; emitted = emitted; flow = f })).flow
        (for_each program name items action (record { names = names; emitted = emitted; flow = f })).emitted
        (followed_by o (chain_output (rest_of hs) (output (map (spread_at other) items) Going)))
    later items other before o rest flow.Going names emitted alike b =
        let more = chain_output (rest_of hs) (output (map (spread_at other) items) Going) in
        let run = for_each program name items action (standing names emitted) in
        subst (Behind (stage_line program) before run.flow run.emitted) (sym (follows o more Going b.0))
        (join_behind (stage_line program) before emitted run.flow run.emitted o more b.1 (rest names emitted alike))
    later items other before o rest flow.Continued names emitted alike b = absurd b
    later items other before o rest (flow.Broke line) names emitted alike b =
        let more = chain_output (rest_of hs) (output (map (spread_at other) items) Going) in
        let run : BodyRun = record { names = names; emitted = emitted; flow = flow.Broke line } in
        subst (λ (run : BodyRun). Behind (stage_line program) before run.flow run.emitted (followed_by o more))
        (sym (ended_stays (map (for_item program name action) items) run refl))
        (subst (Behind (stage_line program) before (flow.Broke line) emitted)
        (sym (follows o more (Ended (stage_line program line)) b.0)) b)
    later items other before o rest (flow.Faulted line kind) names emitted alike b =
        let more = chain_output (rest_of hs) (output (map (spread_at other) items) Going) in
        let run : BodyRun = record { names = names; emitted = emitted; flow = flow.Faulted line kind } in
        subst (λ (run : BodyRun). Behind (stage_line program) before run.flow run.emitted (followed_by o more))
        (sym (ended_stays (map (for_item program name action) items) run refl))
        (subst (Behind (stage_line program) before (flow.Faulted line kind) emitted)
        (sym (follows o more (Fault line kind) b.0)) b)

    -- one body run after another
    each_agrees : (items : List ℤ) (names other : Bindings) (before : List Pair) → Alike names other →
        EachAgrees items names other before
    each_agrees [] names other before alike =
        let none = chain_nothing (rest_of hs) Going in (
          ap (λ (o : Output). o.end) none,
          sym (append-nil before) ∙ ap (λ (o : Output). before ++ emitted_by o.elements)
              (sym none),
        )
    each_agrees (item ∷ items) names other before alike =
        let run = for_item program name action item (standing names before) in
        let o = chain_output (rest_of hs) (alone (spread_at other item)) in
        let whole = for_each program name items action run in
        subst (Behind (stage_line program) before whole.flow whole.emitted)
        (sym (chain_two (rest_of hs) (spread_at other item ∷ []) (map (spread_at other) items) Going))
        (later items other before o (λ names mid alike. each_agrees items names other mid alike) run.flow run.names run.emitted
        (λ n seen. sym (kept (standing names before) width item n seen) ∙ alike n seen)
        (agree width range (insert names name (Int item)) (insert other name (Int item)) before
        (λ n seen. bound_alike n name (Int item) names other (alike n seen))))

  -- ---- all heads

  -- a head whose range is evaluated
  ranged : (h : InnerHead) (hs : List InnerHead) (width : ℕ) (range : InnerRange) (names other : Bindings)
      (before : List Pair) → HeadsAgree hs → ItemsKeep hs h.name → Alike names other → (r : Ranged) →
      RunBehind (with_items program.head.line (items_or_fault r)
      (λ items. for_each program h.name items (inner_runs program hs (width * length items))))
      (Cat program.head.line h.name ∷ rest_of hs)
      (followed_by (with_range program.head.line r (at other width range [])) (nothing Going)) names before
  ranged h hs width range names other before agree kept alike (Err stop) =
      let none = chain_nothing (rest_of hs) (Fault program.head.line (fault_number stop)) in (
        ap (λ (o : Output). o.end) none,
        (
          [],
          sym (append-nil before) ∙ sym (append-nil (before ++ []))
              ∙ ap (λ (o : Output). (before ++ emitted_by o.elements) ++ []) (sym none),
        ),
      )
  ranged h hs width range names other before agree kept alike (Ok r) =
      let e = at other width r [] in
      let list = map (spread h.name e) (items_of r) in
      let P : ℕ → Type 0 = λ count. RunBehind (for_each program h.name (items_of r) (inner_runs program hs (width * count)))
      (rest_of hs) (output (list ++ []) Going) names before in
      subst P (sym (items_counted r))
      (subst (λ xs. RunBehind (for_each program h.name (items_of r) (inner_runs program hs (width * r.count))) (rest_of hs)
      (output xs Going) names before) (sym (append-nil list))
      (each_agrees hs h.name (width * r.count) r agree kept (items_of r) names other before alike))

  pub heads_agree : (hs : List InnerHead) → SameRanges program hs → KeptUnder program hs → HeadsAgree hs
  heads_agree [] same kept = innermost
  heads_agree (h ∷ hs) same kept = λ width range names other before alike.
      let rest = heads_agree hs same.1 kept.1 in
      let next : List ℤ → Action = λ items. for_each program h.name items (inner_runs program hs (width * length items)) in
      let made = followed_by (with_range program.head.line (range_of h.range (get other) width) (at other width range []))
      (nothing Going) in
      let items : items_or_fault (range_of h.range (get other) width) ≡ inner_items h.range (get names) width =
      range_items_of h.range (get other) width ∙ sym (same.0 names other width alike) in
      subst (λ items. RunBehind (with_items program.head.line items next)
      (Cat program.head.line h.name ∷ rest_of hs) made names before) items
      (ranged h hs width range names other before rest kept.0 alike (range_of h.range (get other) width))

-- The run of a legal loop over a list is the runs over the parts of any cut of it, each from the start.
use Rattle.std.proofs.Common.{◌≡◌, ℕ, suc, ◌+◌, ◌-◌, ◌≤◌, Bool, true, false, List, [], ◌∷◌, ◌++◌, length, map, refl, ap, sym, ◌∙◌, subst, arith}
use Rattle.std.specs.Prelude.{if◌then◌else◌, Some, slice_get}
use Rattle.loop_data.specs.declared.value.Value.{Value}
use Rattle.loop_grammar.specs.SkippedFaults.{skips_faults}
use Rattle.loop_grammar.specs.declared.tree.ProgramTree.{ProgramTree}
use Rattle.loop_values.specs.Bindings.{Bindings}
use Rattle.legality_rules.specs.Offences.{IsLegal}
use Rattle.loop_meaning.specs.declared.runs.Run.{Run}
use Rattle.loop_meaning.specs.declared.runs.PlainStop.{PlainStop}
use Rattle.loop_meaning.specs.declared.runs.PlainStop.TheVariants as stop
use Rattle.loop_meaning.specs.declared.steps.BodyEnd.{BodyEnd}
use Rattle.loop_meaning.specs.declared.steps.BodyEnd.TheVariants as end
use Rattle.loop_meaning.specs.Laws.{place_of}
use Rattle.loop_meaning.specs.Reducers.{end_of_run, named_among, reducers_of, sites_of}
use Rattle.loop_meaning.specs.Runs.{after_stop, followed_by, loop_run, with_step}
use Rattle.loop_meaning.specs.Steps.{Step, body_step}
use Rattle.loop_meaning.specs.Stops.{is_stop, leftmost_from, stops}
use Rattle.loop_meaning.specs.Stores.{start_store}
use Rattle.loop_meaning.proofs.RunLemmas.{two_lists}
use Rattle.carries_nothing.specs.Alike.{Alike, IsReached, IsStore, at_start, one_more}
use Rattle.carries_nothing.specs.Laws.{LegalCarriesNothing, PartsEndAsWhole, PartsLeaveAlike, ReachedIsAlike, ReachedRunsAsStart, ReachedStepsAsStart, RunsReachStores, StopIsItsItems, StopsLeftmost}
use Rattle.carries_nothing.specs.Parts.{GivesSame, SameRun, StopsAsItem, from_start}
use Rattle.carries_nothing.proofs.KeptStores.{alike_agrees, start_is_store, step_alike, step_leaves_store}
use Rattle.carries_nothing.specs.Blocks.{Agree}
use Rattle.carries_nothing.proofs.SameSteps.{hidden, step_same}

-- ---- runs that give the same

same_refl : (program : ProgramTree) (run : Run) → SameRun program run run
same_refl program run = record { given = record { emitted = refl; skipped = refl; stop = refl }; store = λ n lasts. refl }

-- the same step before runs that give the same
stepped : (program : ProgramTree) (skips : Bool) (e : BodyEnd) (s t : Step) (place : ℕ) (run other : Run) → s.emitted ≡ t.emitted → Alike program s.store t.store → SameRun program run other →
    SameRun program (with_step skips e s place run) (with_step skips e t place other)
stepped program skips end.Next s t place run other emitted alike same = record {
  given = record {
    emitted = ap (λ l. l ++ run.emitted) emitted ∙ ap (λ l. t.emitted ++ l) same.given.emitted;
    skipped = same.given.skipped;
    stop = same.given.stop;
  };
  store = same.store;
}
stepped program skips (end.Break line) s t place run other emitted alike same = record { given = record { emitted = emitted; skipped = refl; stop = refl }; store = alike }
stepped program true (end.Fault line kind) s t place run other emitted alike same = record {
  given = record { emitted = same.given.emitted; skipped = ap (λ k. k + 1) same.given.skipped; stop = same.given.stop };
  store = same.store;
}
stepped program false (end.Fault line kind) s t place run other emitted alike same = record { given = record { emitted = emitted; skipped = refl; stop = refl }; store = alike }

-- a run, and after it runs that give the same
followed : (program : ProgramTree) (how : PlainStop) (run more other : Run) → SameRun program more other → SameRun program (after_stop how run more) (after_stop how run other)
followed program stop.Ran run more other same = record {
  given = record {
    emitted = ap (λ l. run.emitted ++ l) same.given.emitted;
    skipped = ap (λ k. run.skipped + k) same.given.skipped;
    stop = same.given.stop;
  };
  store = same.store;
}
followed program (stop.Break at line) run more other same = same_refl program run
followed program (stop.Fault at line kind) run more other same = same_refl program run

-- ---- legal loops

module _ (program : ProgramTree) (legal : IsLegal program) where
  -- what a store has that a step can't tell from the start
  record AsStart (store : Bindings) : Type 0 where
    pub is_store : IsStore program store
    pub alike : Alike program store (start_store program)

  start_as_start : AsStart (start_store program)
  start_as_start = record { is_store = start_is_store program; alike = λ n lasts. refl }

  step_as_start : (store : Bindings) (item : Value) (place : ℕ) → AsStart store → AsStart (body_step program store item place).store
  step_as_start store item place like = record {
    is_store = step_leaves_store program store item place like.is_store;
    alike = λ n lasts. sym (step_alike program legal store item place n lasts) ∙ like.alike n lasts;
  }

  agrees : (store other : Bindings) → AsStart store → AsStart other → Agree (hidden program legal) store other
  agrees store other like also =
      alike_agrees program legal store other like.is_store also.is_store (λ n lasts. like.alike n lasts ∙ sym (also.alike n lasts))

  -- a run leaves such a store
  run_as_start : (items : List Value) (place : ℕ) (store : Bindings) → AsStart store → AsStart (loop_run program store items place).store
  run_as_start [] place store like = like
  run_as_start (x ∷ xs) place store like =
      let step = body_step program store x place in
      let next : AsStart step.store = step_as_start store x place like in
      ends (skips_faults program) step.end step (loop_run program step.store xs (place + 1)) next (run_as_start xs (place + 1) step.store next)
    where
      ends : (skips : Bool) (e : BodyEnd) (step : Step) (run : Run) → AsStart step.store → AsStart run.store → AsStart (with_step skips e step place run).store
      ends skips end.Next step run here rest = rest
      ends skips (end.Break line) step run here rest = here
      ends true (end.Fault line kind) step run here rest = rest
      ends false (end.Fault line kind) step run here rest = here

  -- from two such stores a run gives the same
  runs_same : (items : List Value) (place : ℕ) (store other : Bindings) → AsStart store → AsStart other → SameRun program (loop_run program store items place) (loop_run program other items place)
  runs_same [] place store other like also = record { given = record { emitted = refl; skipped = refl; stop = refl }; store = λ n lasts. like.alike n lasts ∙ sym (also.alike n lasts) }
  runs_same (x ∷ xs) place store other like also =
      let step = body_step program store x place in
      let step_other = body_step program other x place in
      let done = step_same program legal store other x place (agrees store other like also) in
      let next : AsStart step.store = step_as_start store x place like in
      let next_other : AsStart step_other.store = step_as_start other x place also in
      let rest = runs_same xs (place + 1) step.store step_other.store next next_other in
      subst (λ e. SameRun program (with_step (skips_faults program) step.end step place (loop_run program step.store xs (place + 1))) (with_step (skips_faults program) e step_other place (loop_run program step_other.store xs (place + 1)))) done.end
      (stepped program (skips_faults program) step.end step step_other place _ _ done.emitted (λ n lasts. next.alike n lasts ∙ sym (next_other.alike n lasts)) rest)

  parts_same : (left right : List Value) (place : ℕ) →
      SameRun program (from_start program (left ++ right) place) (followed_by (from_start program left place) (from_start program right (place + length left)))
  parts_same left right place =
      let first : Run = from_start program left place in
      let whole : SameRun program (followed_by first (loop_run program first.store right (place + length left))) (followed_by first (from_start program right (place + length left))) =
      followed program first.stop first _ _ (runs_same right (place + length left) first.store (start_store program) (run_as_start left place (start_store program) start_as_start) start_as_start) in
      subst (λ run. SameRun program run (followed_by first (from_start program right (place + length left)))) (sym (two_lists program (start_store program) left right place)) whole

  -- ---- stores that are reached

  reached : (store : Bindings) → IsReached program store → AsStart store
  reached _ at_start = start_as_start
  reached _ (one_more {store} before item place) = step_as_start store item place (reached store before)

  -- ---- the leftmost stop

  step_stops : (skips : Bool) (e : BodyEnd) (step : Step) (place : ℕ) (rest : Run) → place_of (with_step skips e step place rest).stop ≡ (if is_stop skips e then Some place else place_of rest.stop)
  step_stops skips end.Next step place rest = refl
  step_stops skips (end.Break line) step place rest = refl
  step_stops true (end.Fault line kind) step place rest = refl
  step_stops false (end.Fault line kind) step place rest = refl

  stops_from : (items : List Value) (place : ℕ) (store : Bindings) → AsStart store → place_of (loop_run program store items place).stop ≡ leftmost_from program items place
  stops_from [] place store like = refl
  stops_from (x ∷ xs) place store like =
      let step = body_step program store x place in
      let rest = loop_run program step.store xs (place + 1) in
      let done = step_same program legal store (start_store program) x place (agrees store (start_store program) like start_as_start) in
      step_stops (skips_faults program) step.end step place rest
      ∙ ap (λ e. if is_stop (skips_faults program) e then Some place else place_of rest.stop) done.end
      ∙ ap (λ z. if stops program x place then Some place else z) (stops_from xs (place + 1) step.store (step_as_start store x place like))

  -- an item so many places on, over which alone the run stops so
  record StopsOn (items : List Value) (from on : ℕ) (how : PlainStop) : Type 0 where
    item : Value
    is : slice_get items on ≡ Some item
    stop : how ≡ (from_start program (item ∷ []) (from + on)).stop

  abbrev Found : List Value → ℕ → ℕ → PlainStop → Type 0
  Found items from place how = (on : ℕ) × (place ≡ from + on) × StopsOn items from on how

  -- a step that stops, before whatever runs
  same_stop : (skips : Bool) (e : BodyEnd) (s t : Step) (place : ℕ) (run other : Run) → is_stop skips e ≡ true →
      (with_step skips e s place run).stop ≡ (with_step skips e t place other).stop
  same_stop skips end.Next s t place run other h = absurd (cc h)
  same_stop skips (end.Break line) s t place run other h = refl
  same_stop true (end.Fault line kind) s t place run other h = absurd (cc h)
  same_stop false (end.Fault line kind) s t place run other h = refl

  later_stop : (skips : Bool) (e : BodyEnd) (s : Step) (place : ℕ) (rest : Run) → is_stop skips e ≡ false → (with_step skips e s place rest).stop ≡ rest.stop
  later_stop skips end.Next s place rest h = refl
  later_stop skips (end.Break line) s place rest h = absurd (cc h)
  later_stop true (end.Fault line kind) s place rest h = refl
  later_stop false (end.Fault line kind) s place rest h = absurd (cc h)

  -- the first item stops, or a later one does
  found_at : (x : Value) (xs : List Value) (from place : ℕ) (step : Step) (rest : Run) (b : Bool) → step.end ≡ (body_step program (start_store program) x from).end → stops program x from ≡ b →
      (leftmost_from program xs (from + 1) ≡ Some place → Found xs (from + 1) place rest.stop) →
      (if b then Some from else leftmost_from program xs (from + 1)) ≡ Some place →
      Found (x ∷ xs) from place (with_step (skips_faults program) step.end step from rest).stop
  found_at x xs from place step rest true same h further e =
      let skips = skips_faults program in
      let first = body_step program (start_store program) x from in
      let alone = loop_run program first.store [] (from + 1) in
      let none : from + 0 ≡ from = omega arith in
      let here : from ≡ place = cc e in
      let stopped : (with_step skips step.end step from rest).stop ≡ (with_step skips first.end first from alone).stop =
      ap (λ (z : BodyEnd). (with_step skips z step from rest).stop) same ∙ same_stop skips first.end step first from rest alone h in
      (0, sym here ∙ sym none, record { item = x; is = refl; stop = stopped ∙ ap (λ p. (from_start program (x ∷ []) p).stop) (sym none) })
  found_at x xs from place step rest false same h further e =
      let skips = skips_faults program in
      let there = further e in
      let over : (from + 1) + there.0 ≡ from + suc there.0 = omega arith in
      let going : is_stop skips step.end ≡ false = ap (is_stop skips) same ∙ h in (
        suc there.0,
        there.1 ∙ over,
        record {
          item = there.2.item;
          is = there.2.is;
          stop = later_stop skips step.end step from rest going ∙ there.2.stop ∙ ap (λ p. (from_start program (there.2.item ∷ []) p).stop) over;
        },
      )

  found : (items : List Value) (from place : ℕ) (store : Bindings) → AsStart store → leftmost_from program items from ≡ Some place → Found items from place (loop_run program store items from).stop
  found [] from place store like e = absurd (cc e)
  found (x ∷ xs) from place store like e =
      let step = body_step program store x from in
      let done = step_same program legal store (start_store program) x from (agrees store (start_store program) like start_as_start) in
      found_at x xs from place step (loop_run program step.store xs (from + 1)) (stops program x from) done.end refl
      (found xs (from + 1) place step.store (step_as_start store x from like)) e

-- ---- a run leaves a store that is reached

pub runs_reach_stores : RunsReachStores
runs_reach_stores program store is [] place = is
runs_reach_stores program store is (x ∷ xs) place =
    let step = body_step program store x place in
    let next : IsReached program step.store = one_more is x place in
    ends (skips_faults program) step.end step (loop_run program step.store xs (place + 1)) next (runs_reach_stores program step.store next xs (place + 1))
  where
    ends : (skips : Bool) (e : BodyEnd) (step : Step) (run : Run) → IsReached program step.store → IsReached program run.store → IsReached program (with_step skips e step place run).store
    ends skips end.Next step run here rest = rest
    ends skips (end.Break line) step run here rest = here
    ends true (end.Fault line kind) step run here rest = rest
    ends false (end.Fault line kind) step run here rest = here

-- ---- the laws

pub legal_carries_nothing : LegalCarriesNothing
legal_carries_nothing program legal left right place = (parts_same program legal left right place).given

pub parts_leave_alike : PartsLeaveAlike
parts_leave_alike program legal left right place = (parts_same program legal left right place).store

-- runs that give the same end with the same inputs of each reducer
ends_same : (program : ProgramTree) (run other : Run) → GivesSame run other → end_of_run program run ≡ end_of_run program other
ends_same program run other same = λ i. record {
  stop = same.stop i;
  inputs = map (named_among (sites_of program) (same.emitted i)) (reducers_of program);
  skipped = same.skipped i;
}

pub parts_end_as_whole : PartsEndAsWhole
parts_end_as_whole program legal left right place = ends_same program _ _ (legal_carries_nothing program legal left right place)

pub reached_alike : ReachedIsAlike
reached_alike program legal store is =
    let like = reached program legal store is in
    (like.is_store, like.alike)

pub reached_runs : ReachedRunsAsStart
reached_runs program legal store is items place = runs_same program legal items place store (start_store program) (reached program legal store is) (start_as_start program legal)

pub reached_steps : ReachedStepsAsStart
reached_steps program legal store is item place =
    let done = step_same program legal store (start_store program) item place (agrees program legal store (start_store program) (reached program legal store is) (start_as_start program legal)) in
    (done.emitted, done.end)

pub stops_leftmost : StopsLeftmost
stops_leftmost program legal items place = stops_from program legal items place (start_store program) (start_as_start program legal)

pub stop_is_its_items : StopIsItsItems
stop_is_its_items program legal items from place e =
    let there = found program legal items from place (start_store program) (start_as_start program legal) e in
    let on : there.0 ≡ place - from = omega (arith, there.1) in
    record {
      item = there.2.item;
      reached = omega (arith, there.1);
      is = ap (slice_get items) (sym on) ∙ there.2.is;
      stop = there.2.stop ∙ ap (λ p. (from_start program (there.2.item ∷ []) p).stop) (sym there.1);
    }

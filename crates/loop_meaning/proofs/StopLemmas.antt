-- Where runs stop, how many faults they skip, and the leftmost item that stops.
use Rattle.std.proofs.Common.{◌≡◌, ℕ, zero, suc, ◌+◌, ◌-◌, ◌≤◌, Bool, true, false, List, [], ◌∷◌, length, take, Option, Some, None, refl, ap, sym, ◌∙◌, subst, arith}
use Rattle.std.specs.Prelude.{if◌then◌else◌, slice_get}
use Rattle.loop_data.specs.declared.value.Value.{Value}
use Rattle.loop_grammar.specs.SkippedFaults.{skips_faults}
use Rattle.loop_grammar.specs.declared.tree.ProgramTree.{ProgramTree}
use Rattle.loop_meaning.specs.declared.steps.BodyEnd.{BodyEnd}
use Rattle.loop_meaning.specs.declared.steps.BodyEnd.TheVariants as end
use Rattle.loop_meaning.specs.declared.runs.PlainStop.{PlainStop}
use Rattle.loop_meaning.specs.declared.runs.PlainStop.TheVariants as stop
use Rattle.loop_meaning.specs.declared.runs.Run.{Run}
use Rattle.loop_meaning.specs.Laws.{StopsCutTheList, place_of, LiesAmong, StopsAmongItems, SkipsAtMostItems, SkipsNone, LeftmostStops, NoneStopsBefore, NoneStops, RunsStopLeftmost}
use Rattle.loop_meaning.specs.Runs.{loop_run, with_step}
use Rattle.loop_meaning.specs.Steps.{Step, body_step}
use Rattle.loop_meaning.specs.Stops.{StopsAt, is_stop, leftmost_from, stops}
use Rattle.loop_meaning.specs.Stores.{start_store}
use Rattle.loop_meaning.proofs.StoreLemmas.{store_stays}

-- ---- where a run stops

later : (from count : ℕ) (how : PlainStop) → LiesAmong (from + 1) count how → LiesAmong from (suc count) how
later from count stop.Ran h = tt
later from count (stop.Break at line) h = (omega (arith, h.0), omega (arith, h.1))
later from count (stop.Fault at line kind) h = (omega (arith, h.0), omega (arith, h.1))

step_among : (skips : Bool) (e : BodyEnd) (step : Step) (place count : ℕ) (rest : Run) → LiesAmong (place + 1) count rest.stop → LiesAmong place (suc count) (with_step skips e step place rest).stop
step_among skips end.Next step place count rest h = later place count rest.stop h
step_among skips (end.Break line) step place count rest h = (omega arith, omega arith)
step_among true (end.Fault line kind) step place count rest h = later place count rest.stop h
step_among false (end.Fault line kind) step place count rest h = (omega arith, omega arith)

pub among_items : StopsAmongItems
among_items program store [] place = tt
among_items program store (x ∷ xs) place =
    let step = body_step program store x place in
    step_among (skips_faults program) step.end step place (length xs) (loop_run program step.store xs (place + 1)) (among_items program step.store xs (place + 1))

-- ---- a run up to its stop

from_place : (from count at : ℕ) (how : PlainStop) → LiesAmong from count how → place_of how ≡ Some at → from ≤ at
from_place from count at stop.Ran h e = absurd (cc)
from_place from count at (stop.Break p line) h e = let same : p ≡ at = cc in omega (arith, h.0, same)
from_place from count at (stop.Fault p line kind) h e = let same : p ≡ at = cc in omega (arith, h.0, same)

step_cut : (program : ProgramTree) (skips : Bool) (b : BodyEnd) (step : Step) (place at : ℕ) (xs : List Value) →
    (place_of (loop_run program step.store xs (place + 1)).stop ≡ Some at →
    loop_run program step.store xs (place + 1) ≡ loop_run program step.store (take (at + 1 - (place + 1)) xs) (place + 1)) →
    place_of (with_step skips b step place (loop_run program step.store xs (place + 1))).stop ≡ Some at →
    with_step skips b step place (loop_run program step.store xs (place + 1)) ≡ with_step skips b step place (loop_run program step.store (take (at - place) xs) (place + 1))
step_cut program skips end.Next step place at xs ih e =
    let same : at + 1 - (place + 1) ≡ at - place = omega arith in
    ap (with_step skips end.Next step place) (ih e ∙ ap (λ n. loop_run program step.store (take n xs) (place + 1)) same)
step_cut program skips (end.Break line) step place at xs ih e = refl
step_cut program true (end.Fault line kind) step place at xs ih e =
    let same : at + 1 - (place + 1) ≡ at - place = omega arith in
    ap (with_step true (end.Fault line kind) step place) (ih e ∙ ap (λ n. loop_run program step.store (take n xs) (place + 1)) same)
step_cut program false (end.Fault line kind) step place at xs ih e = refl

pub stops_cut : StopsCutTheList
stops_cut program store [] place at e = absurd (cc)
stops_cut program store (x ∷ xs) place at e =
    let step = body_step program store x place in
    let low = from_place place (length (x ∷ xs)) at (loop_run program store (x ∷ xs) place).stop (among_items program store (x ∷ xs) place) e in
    let same : suc (at - place) ≡ at + 1 - place = omega (arith, low) in
    step_cut program (skips_faults program) step.end step place at xs (stops_cut program step.store xs (place + 1) at) e
    ∙ ap (λ n. loop_run program store (take n (x ∷ xs)) place) same

-- ---- how many faults a run skips

step_skips : (skips : Bool) (e : BodyEnd) (step : Step) (place count : ℕ) (rest : Run) → rest.skipped ≤ count → (with_step skips e step place rest).skipped ≤ suc count
step_skips skips end.Next step place count rest h = omega (arith, h)
step_skips skips (end.Break line) step place count rest h = omega arith
step_skips true (end.Fault line kind) step place count rest h = omega (arith, h)
step_skips false (end.Fault line kind) step place count rest h = omega arith

pub skips_at_most : SkipsAtMostItems
skips_at_most program store [] place = omega arith
skips_at_most program store (x ∷ xs) place =
    let step = body_step program store x place in
    step_skips (skips_faults program) step.end step place (length xs) (loop_run program step.store xs (place + 1)) (skips_at_most program step.store xs (place + 1))

step_skips_none : (skips : Bool) (e : BodyEnd) (step : Step) (place : ℕ) (rest : Run) → skips ≡ false → rest.skipped ≡ 0 → (with_step skips e step place rest).skipped ≡ 0
step_skips_none skips end.Next step place rest none h = h
step_skips_none skips (end.Break line) step place rest none h = refl
step_skips_none true (end.Fault line kind) step place rest none h = absurd (cc (none))
step_skips_none false (end.Fault line kind) step place rest none h = refl

pub skips_none : SkipsNone
skips_none program store [] place none = refl
skips_none program store (x ∷ xs) place none =
    let step = body_step program store x place in
    step_skips_none (skips_faults program) step.end step place (loop_run program step.store xs (place + 1)) none (skips_none program step.store xs (place + 1) none)

-- ---- the leftmost stop, of items the first of which has the place `from`

-- an item so many places on stops
record StopsOn (program : ProgramTree) (items : List Value) (from on : ℕ) : Type 0 where
  item : Value
  is : slice_get items on ≡ Some item
  stops_there : stops program item (from + on) ≡ true

module _ (program : ProgramTree) where
  one_on : (x : Value) (xs : List Value) (from on : ℕ) → StopsOn program xs (from + 1) on → StopsOn program (x ∷ xs) from (suc on)
  one_on x xs from on h =
      let same : (from + 1) + on ≡ from + suc on = omega arith in
      record { item = h.item; is = h.is; stops_there = ap (stops program h.item) (sym same) ∙ h.stops_there }

  abbrev Found : List Value → ℕ → ℕ → Type 0
  Found items from place = (on : ℕ) × (place ≡ from + on) × StopsOn program items from on

  found_at : (x : Value) (xs : List Value) (from place : ℕ) (b : Bool) → stops program x from ≡ b →
      (leftmost_from program xs (from + 1) ≡ Some place → Found xs (from + 1) place) →
      (if b then Some from else leftmost_from program xs (from + 1)) ≡ Some place → Found (x ∷ xs) from place
  found_at x xs from place true h further e =
      let same : from ≡ from + 0 = omega arith in
      let here : from ≡ place = cc in
      (0, sym here ∙ same, record { item = x; is = refl; stops_there = ap (stops program x) (sym same) ∙ h })
  found_at x xs from place false h further e =
      let there = further e in
      let same : (from + 1) + there.0 ≡ from + suc there.0 = omega arith in
      (suc there.0, there.1 ∙ same, one_on x xs from there.0 there.2)

  found : (items : List Value) (from place : ℕ) → leftmost_from program items from ≡ Some place → Found items from place
  found [] from place e = absurd (cc)
  found (x ∷ xs) from place e = found_at x xs from place (stops program x from) refl (found xs (from + 1) place) e

  -- at most that number; where there is none, never
  abbrev UpTo : Option ℕ → ℕ → Type 0
  UpTo (Some p) q = p ≤ q
  UpTo None q = ⊥

  apart : {A : Type 0} (b : Bool) → b ≡ false → b ≡ true → A
  apart true e f = absurd (cc)
  apart false e f = absurd (cc)

  least_at : (x : Value) (xs : List Value) (from on : ℕ) (b : Bool) → stops program x from ≡ b →
      ((j : ℕ) → StopsOn program xs (from + 1) j → UpTo (leftmost_from program xs (from + 1)) ((from + 1) + j)) →
      StopsOn program (x ∷ xs) from on → UpTo (if b then Some from else leftmost_from program xs (from + 1)) (from + on)
  least_at x xs from on true h further s = omega arith
  least_at x xs from zero false h further s =
      let same : from + 0 ≡ from = omega arith in
      let it : x ≡ s.item = cc (s.is) in
      apart (stops program x from) h (ap (λ y. stops program y from) it ∙ ap (stops program s.item) (sym same) ∙ s.stops_there)
  least_at x xs from (suc j) false h further s =
      let same : (from + 1) + j ≡ from + suc j = omega arith in
      subst (UpTo (leftmost_from program xs (from + 1))) same (further j (record { item = s.item; is = s.is; stops_there = ap (stops program s.item) same ∙ s.stops_there }))

  least : (items : List Value) (from on : ℕ) → StopsOn program items from on → UpTo (leftmost_from program items from) (from + on)
  least [] from on s = absurd (cc (s.is))
  least (x ∷ xs) from on s = least_at x xs from on (stops program x from) refl (least xs (from + 1)) s

  on_from_at : (items : List Value) (place : ℕ) → StopsAt program items place → StopsOn program items 1 (place - 1)
  on_from_at items place s =
      let same : 1 + (place - 1) ≡ place = omega (arith, s.counted) in
      record { item = s.item; is = s.is; stops_there = ap (stops program s.item) same ∙ s.stops_there }

pub leftmost_stops : LeftmostStops
leftmost_stops program items place e =
    let there = found program items 1 place e in
    let on : there.0 ≡ place - 1 = omega (arith, there.1) in
    record {
      item = there.2.item;
      counted = omega (arith, there.1);
      is = ap (slice_get items) (sym on) ∙ there.2.is;
      stops_there = ap (stops program there.2.item) there.1 ∙ there.2.stops_there;
    }

pub none_before : NoneStopsBefore
none_before program items place also e s =
    let same : 1 + (also - 1) ≡ also = omega (arith, s.counted) in
    subst (λ p. UpTo program p also) e (subst (UpTo program (leftmost_from program items 1)) same (least program items 1 (also - 1) (on_from_at program items also s)))

pub none_stops : NoneStops
none_stops program items place e s =
    subst (λ p. UpTo program p (1 + (place - 1))) e (least program items 1 (place - 1) (on_from_at program items place s))

-- ---- a run stops at the leftmost stop, where a step leaves the store as it is

step_stops : (skips : Bool) (e : BodyEnd) (step : Step) (place : ℕ) (rest : Run) (further : Option ℕ) → place_of rest.stop ≡ further →
    place_of (with_step skips e step place rest).stop ≡ (if is_stop skips e then Some place else further)
step_stops skips end.Next step place rest further h = h
step_stops skips (end.Break line) step place rest further h = refl
step_stops true (end.Fault line kind) step place rest further h = h
step_stops false (end.Fault line kind) step place rest further h = refl

stops_leftmost : (program : ProgramTree) (items : List Value) (place : ℕ) → program.vars ≡ [] → program.scratch ≡ [] →
    place_of (loop_run program (start_store program) items place).stop ≡ leftmost_from program items place
stops_leftmost program [] place no_vars no_scratch = refl
stops_leftmost program (x ∷ xs) place no_vars no_scratch =
    let store = start_store program in
    let step = body_step program store x place in
    let rest = ap (λ s. place_of (loop_run program s xs (place + 1)).stop) (store_stays program store x place no_vars no_scratch) ∙ stops_leftmost program xs (place + 1) no_vars no_scratch in
    step_stops (skips_faults program) step.end step place (loop_run program step.store xs (place + 1)) (leftmost_from program xs (place + 1)) rest

pub runs_stop_leftmost : RunsStopLeftmost
runs_stop_leftmost program items no_vars no_scratch = stops_leftmost program items 1 no_vars no_scratch

-- Laws of items, steps and runs.
-- Source: this project.
use Rattle.std.specs.Prelude.{◌≡◌, ◌≢◌, ◌≤◌, ◌<◌, ◌+◌, ◌-◌, ◌*◌, ◌^◌, ◌/◌, ◌%◌, ℕ, true, false, List, [], ◌∷◌, ◌++◌, length, map}
use Rattle.std.specs.Prelude.{Option, Some, None, option_and_then, option_map, slice_get, take}
use Rattle.number_ranges.specs.Ranges.{most_items}
use Rattle.loop_data.specs.declared.value.Value.{Value}
use Rattle.loop_data.specs.declared.value.Value.TheVariants.{Tuple}
use Rattle.loop_data.specs.declared.head.Axis.{Axis}
use Rattle.loop_data.specs.declared.head.Axis.TheVariants.{Zip}
use Rattle.loop_data.specs.declared.head.Inner.{Inner}
use Rattle.loop_data.specs.declared.statement.Statement.{Statement}
use Rattle.loop_grammar.specs.SkippedFaults.{skips_faults}
use Rattle.loop_grammar.specs.declared.tree.ProgramTree.{ProgramTree}
use Rattle.loop_values.specs.Bindings.{Bindings}
use Rattle.loop_values.specs.InnerItems.{inner_limit}
use Rattle.tower_inputs.specs.Inputs.{most_sites}
use Rattle.column_input.specs.Table.{Contents}
use Rattle.loop_meaning.specs.declared.steps.BodyEnd.{BodyEnd}
use Rattle.loop_meaning.specs.declared.steps.BodyEnd.TheVariants as end
use Rattle.loop_meaning.specs.declared.steps.BodyRun.{BodyRun}
use Rattle.loop_meaning.specs.declared.steps.Pair.{Pair}
use Rattle.loop_meaning.specs.declared.runs.PlainStop.{PlainStop}
use Rattle.loop_meaning.specs.declared.runs.PlainStop.TheVariants.{Ran, Break, Fault}
use Rattle.loop_meaning.specs.Counts.{axis_count, items_count, least_count, product_of}
use Rattle.loop_meaning.specs.Items.{Sources, all_items, axis_items, combinations, items_of, side_by_side, sources_of}
use Rattle.loop_meaning.specs.Reducers.{inputs_of, sites_of}
use Rattle.loop_meaning.specs.Runs.{followed_by, loop_run}
use Rattle.loop_meaning.specs.Statements.{Action, block_run}
use Rattle.loop_meaning.specs.Steps.{body_step, inner_runs}
use Rattle.loop_meaning.specs.Stops.{StopsAt, leftmost_stop}
use Rattle.loop_meaning.specs.Stores.{start_store}

-- ---- runs

-- The run over two lists is the run over the first and, where that ran to its end, then the run over the second, from the store
-- that the first left and from the next place.
abbrev pub RunsFollowEachOther : Type 0
RunsFollowEachOther = (program : ProgramTree) (store : Bindings) (xs ys : List Value) (place : ℕ) →
    let first = loop_run program store xs place in
    loop_run program store (xs ++ ys) place
    ≡ followed_by first (loop_run program first.store ys (place + length xs))

-- What follows a stop doesn't count.
abbrev pub NothingFollowsAStop : Type 0
NothingFollowsAStop = (program : ProgramTree) (store : Bindings) (xs ys : List Value) (place : ℕ) →
    (loop_run program store xs place).stop ≢ Ran →
    loop_run program store (xs ++ ys) place ≡ loop_run program store xs place

-- the place at which a run stopped
abbrev pub place_of : PlainStop → Option ℕ
place_of Ran = None
place_of (Break at line) = Some at
place_of (Fault at line kind) = Some at

-- A run that stops at a place is the run over the items up to and with that place.
abbrev pub StopsCutTheList : Type 0
StopsCutTheList = (program : ProgramTree) (store : Bindings) (items : List Value) (place at : ℕ) →
    place_of (loop_run program store items place).stop ≡ Some at →
    loop_run program store items place ≡ loop_run program store (take (at + 1 - place) items) place

-- a stop is at the place of one of so many items from this place on
abbrev pub LiesAmong : ℕ → ℕ → PlainStop → Type 0
LiesAmong from count Ran = Unit {0}
LiesAmong from count (Break at line) = (from ≤ at) × (at < from + count)
LiesAmong from count (Fault at line kind) = (from ≤ at) × (at < from + count)

-- a run stops at the place of one of its items
abbrev pub StopsAmongItems : Type 0
StopsAmongItems = (program : ProgramTree) (store : Bindings) (items : List Value) (place : ℕ) →
    LiesAmong place (length items) (loop_run program store items place).stop

-- a run skips at most as many faults as it has items
abbrev pub SkipsAtMostItems : Type 0
SkipsAtMostItems = (program : ProgramTree) (store : Bindings) (items : List Value) (place : ℕ) →
    (loop_run program store items place).skipped ≤ length items

-- without `on fault skip` no fault is skipped
abbrev pub SkipsNone : Type 0
SkipsNone = (program : ProgramTree) (store : Bindings) (items : List Value) (place : ℕ) →
    skips_faults program ≡ false → (loop_run program store items place).skipped ≡ 0

-- ---- stops

-- the leftmost stop is a place where an item stops, and no item stops left of it
abbrev pub LeftmostStops : Type 0
LeftmostStops = (program : ProgramTree) (items : List Value) (place : ℕ) →
    leftmost_stop program items ≡ Some place → StopsAt program items place

abbrev pub NoneStopsBefore : Type 0
NoneStopsBefore = (program : ProgramTree) (items : List Value) (place also : ℕ) →
    leftmost_stop program items ≡ Some place → StopsAt program items also → place ≤ also

-- where there is no leftmost stop no item stops
abbrev pub NoneStops : Type 0
NoneStops = (program : ProgramTree) (items : List Value) (place : ℕ) →
    leftmost_stop program items ≡ None → StopsAt program items place → ⊥

-- where there are neither outer variables nor scratches, a run from the start stops at the leftmost stop
abbrev pub RunsStopLeftmost : Type 0
RunsStopLeftmost = (program : ProgramTree) (items : List Value) →
    program.vars ≡ [] → program.scratch ≡ [] →
    place_of (loop_run program (start_store program) items 1).stop ≡ leftmost_stop program items

-- ---- steps

-- where there are neither outer variables nor scratches a step leaves the store as it is
abbrev pub StoreStays : Type 0
StoreStays = (program : ProgramTree) (store : Bindings) (item : Value) (place : ℕ) →
    program.vars ≡ [] → program.scratch ≡ [] → (body_step program store item place).store ≡ store

-- the body run, with this emitted before
abbrev pub behind : List Pair → Action
behind before run = record run { emitted = before ++ run.emitted }

-- what was emitted before changes nothing of what a block does, and stands before what the block emits
abbrev pub BlocksEmitBehind : Type 0
BlocksEmitBehind = (block : List Statement) (before : List Pair) (run : BodyRun) →
    block_run block (behind before run) ≡ behind before (block_run block run)

-- the same of the body runs of inner heads
abbrev pub HeadsEmitBehind : Type 0
HeadsEmitBehind = (program : ProgramTree) (heads : List Inner) (width : ℕ) (before : List Pair) (run : BodyRun) →
    inner_runs program heads width (behind before run) ≡ behind before (inner_runs program heads width run)

-- a step emits at most 1,000,000 inputs for each `@reduce` line
abbrev pub StepsEmitFew : Type 0
StepsEmitFew = (program : ProgramTree) (store : Bindings) (item : Value) (place : ℕ) →
    length (body_step program store item place).emitted ≤ inner_limit * length (sites_of program)

-- so at most 64,000,000 where there are at most 64 such lines
abbrev pub StepsEmitAtMost : Type 0
StepsEmitAtMost = (program : ProgramTree) (store : Bindings) (item : Value) (place : ℕ) →
    length (sites_of program) ≤ most_sites → length (body_step program store item place).emitted ≤ inner_limit * most_sites

-- a run emits at most so many for each of its items
abbrev pub RunsEmitFew : Type 0
RunsEmitFew = (program : ProgramTree) (store : Bindings) (items : List Value) (place : ℕ) →
    length (loop_run program store items place).emitted ≤ length items * (inner_limit * length (sites_of program))

-- a name of a program of at most 64 `@reduce` lines has below 2^58 inputs in a run over at most 2^32 items
abbrev pub InputsAreFew : Type 0
InputsAreFew = (program : ProgramTree) (store : Bindings) (items : List Value) (place : ℕ) (name : List ℕ) →
    length (sites_of program) ≤ most_sites → length items ≤ most_items →
    length (inputs_of program (loop_run program store items place).emitted name) < 2 ^ 58

-- the number of a fault's kind is from 1 to 5
abbrev pub HasKind : BodyEnd → Type 0
HasKind end.Next = Unit {0}
HasKind (end.Break line) = Unit {0}
HasKind (end.Fault line kind) = (1 ≤ kind) × (kind ≤ 5)

abbrev pub FaultsHaveKinds : Type 0
FaultsHaveKinds = (program : ProgramTree) (store : Bindings) (item : Value) (place : ℕ) →
    HasKind (body_step program store item place).end

abbrev pub HasStopKind : PlainStop → Type 0
HasStopKind Ran = Unit {0}
HasStopKind (Break at line) = Unit {0}
HasStopKind (Fault at line kind) = (1 ≤ kind) × (kind ≤ 5)

abbrev pub FaultStopsHaveKinds : Type 0
FaultStopsHaveKinds = (program : ProgramTree) (store : Bindings) (items : List Value) (place : ℕ) →
    HasStopKind (loop_run program store items place).stop

-- ---- items

-- the items are as many as the counts of the head's axes say
abbrev pub ItemsAreCounted : Type 0
ItemsAreCounted = (program : ProgramTree) (table : Contents) → length (items_of program table) ≡ items_count program table

-- an axis, a range, a column or a zip, has as many items as its count says
abbrev pub AxesAreCounted : Type 0
AxesAreCounted = (axis : Axis) (sources : Sources) → length (axis_items axis sources) ≡ axis_count axis sources

-- each list's item at this place, from 0
abbrev pub at_place : List (List Value) → ℕ → Option (List Value)
at_place [] before = Some []
at_place (xs ∷ more) before =
    option_and_then (λ x. option_and_then (λ row. Some (x ∷ row)) (at_place more before)) (slice_get xs before)

-- the item of a zip with so many items before it holds each part's item with so many before it
abbrev pub ZipHoldsItems : Type 0
ZipHoldsItems = (lists : List (List Value)) (before : ℕ) →
    before < length (side_by_side lists) → slice_get (side_by_side lists) before ≡ at_place lists before

-- the values of lists at the digits of a number, in the mixed base of their lengths, the first list's digit being the lowest
abbrev pub at_digits : List (List Value) → ℕ → Option (List Value)
at_digits [] before = Some []
at_digits (xs ∷ more) before =
    option_and_then (λ x. option_and_then (λ row. Some (x ∷ row)) (at_digits more (before / length xs)))
    (slice_get xs (before % length xs))

-- the item of a product with so many items before it holds each axis's item at the digits of that number
abbrev pub ProductHoldsDigits : Type 0
ProductHoldsDigits = (lists : List (List Value)) (before : ℕ) →
    before < length (combinations lists) → slice_get (combinations lists) before ≡ at_digits lists before

-- what each axis of a program's first head goes over, from left to right
abbrev pub axes_of : ProgramTree → Contents → List (List Value)
axes_of program table = all_items (map axis_items program.head.axes) (sources_of program table)

-- The items are those of a product of these axes: the item at a place, from 1, is the tuple that holds each axis's item at the
-- digits of the place less 1 (plus 1, as items count from 1), in the mixed base of the axes' counts, the first axis fastest; and
-- there are as many as the product of the counts, and none beyond.
pub record AreOfProduct (items : List Value) (axes : List (List Value)) : Type 0 where
  pub holds : (place : ℕ) → 1 ≤ place → place ≤ length items →
      slice_get items (place - 1) ≡ option_map Tuple (at_digits axes (place - 1))
  pub many : length items ≡ product_of (map length axes)

-- The items are those of a zip of these parts: the item at a place, from 1, is the tuple that holds each part's item at that
-- place; and there are as many as the shortest part has, and none beyond.
pub record AreOfZip (items : List Value) (parts : List (List Value)) : Type 0 where
  pub holds : (place : ℕ) → 1 ≤ place → place ≤ length items →
      slice_get items (place - 1) ≡ option_map Tuple (at_place parts (place - 1))
  pub many : length items ≡ least_count (map length parts)

-- the items of a head that is a product
abbrev pub ProductHeads : Type 0
ProductHeads = (program : ProgramTree) (table : Contents) → program.head.product ≡ true →
    AreOfProduct (items_of program table) (axes_of program table)

-- the items of an axis that is a zip, also of one of a product's
abbrev pub ZipAxes : Type 0
ZipAxes = (parts : List Axis) (sources : Sources) →
    AreOfZip (axis_items (Zip parts) sources) (all_items (map axis_items parts) sources)

-- the items of a head that is one zip
abbrev pub ZipHeads : Type 0
ZipHeads = (program : ProgramTree) (table : Contents) (parts : List Axis) →
    program.head.product ≡ false → program.head.axes ≡ Zip parts ∷ [] →
    AreOfZip (items_of program table) (all_items (map axis_items parts) (sources_of program table))

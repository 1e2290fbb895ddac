-- What holds of legal loops. Each is the contract of a public function.
-- Source: this project.
use Rattle.std.specs.Prelude.{◌≡◌, ℕ, ◌+◌, true, false, not, ◌&&◌, ◌||◌, List, ◌++◌, length, Some}
use Rattle.std.specs.Str.{bytes_eq}
use Rattle.loop_data.specs.declared.value.Value.{Value}
use Rattle.loop_grammar.specs.WellFormed.{is_name, is_well_formed}
use Rattle.loop_grammar.specs.declared.tree.ProgramTree.{ProgramTree}
use Rattle.loop_values.specs.Bindings.{Bindings, place_name}
use Rattle.legality_rules.specs.Offences.{IsLegal}
use Rattle.legality_rules.specs.Rules.{is_assigned, outline_of}
use Rattle.loop_meaning.specs.Laws.{place_of}
use Rattle.loop_meaning.specs.Reducers.{end_of_run}
use Rattle.loop_meaning.specs.Runs.{followed_by, loop_run}
use Rattle.loop_meaning.specs.Assigned.{IsNoneOf, assigned_by}
use Rattle.loop_meaning.specs.declared.steps.BodyRun.{BodyRun}
use Rattle.loop_meaning.specs.Steps.{body_run, body_step}
use Rattle.loop_meaning.specs.Stops.{leftmost_from}
use Rattle.loop_meaning.specs.Stores.{start_store}
use Rattle.carries_nothing.specs.Alike.{Alike, IsReached, IsStore, SameStep, is_lasting, is_scratch, is_variable}
use Rattle.carries_nothing.specs.Bodies.{KeptUnder, SameBody, SameRanges, is_unseen}
use Rattle.carries_nothing.specs.Parts.{CarriesNothing, SameRun, StopsAsItem, from_start}
use Rattle.carries_nothing.specs.Carriers.{running_sum, sometimes_written}

-- From two stores that are alike, the step of an item at a place does the same in a legal loop.
abbrev pub StepsAreSame : Type 0
StepsAreSame = (program : ProgramTree) → IsLegal program → (store other : Bindings) →
    IsStore program store → IsStore program other → Alike program store other →
    (item : Value) (place : ℕ) → SameStep program store other item place

-- In a program that a text spells each outer variable lasts, and each scratch that no line assigns.
abbrev pub SpelledNamesLast : Type 0
SpelledNamesLast = (program : ProgramTree) → is_well_formed program ≡ true → (n : List ℕ) →
    is_lasting program n
    ≡ (is_variable program n || (is_scratch program n && not (is_assigned (outline_of program) n)))

-- A text that is neither a name nor `place` is unseen in it.
abbrev pub OthersAreUnseen : Type 0
OthersAreUnseen = (program : ProgramTree) → is_well_formed program ≡ true → (n : List ℕ) →
    is_name n ≡ false → bytes_eq n place_name ≡ false → is_unseen program n ≡ true

-- No step of a legal loop binds or assigns a name that lasts.
abbrev pub LastingNamesStay : Type 0
LastingNamesStay = (program : ProgramTree) → IsLegal program → (n : List ℕ) →
    is_lasting program n ≡ true → IsNoneOf n (assigned_by program)

-- The body of a legal loop does the same from body runs that are the same but for unseen names.
abbrev pub BodiesAreSame : Type 0
BodiesAreSame = (program : ProgramTree) → IsLegal program → (run other : BodyRun) →
    SameBody program run other → SameBody program (body_run program run) (body_run program other)

-- So do the ranges of its inner heads.
abbrev pub RangesAreSame : Type 0
RangesAreSame = (program : ProgramTree) → IsLegal program → SameRanges program program.head.inner

-- In a legal loop that a text spells each item of an inner head leaves the names before it, but for unseen ones.
abbrev pub InnerItemsKeep : Type 0
InnerItemsKeep = (program : ProgramTree) → IsLegal program → is_well_formed program ≡ true →
    KeptUnder program program.head.inner

-- The loop begins in a store, and a step leaves a store.
abbrev pub StartIsStore : Type 0
StartIsStore = (program : ProgramTree) → IsStore program (start_store program)

abbrev pub StepsLeaveStores : Type 0
StepsLeaveStores = (program : ProgramTree) (store : Bindings) (item : Value) (place : ℕ) →
    IsStore program store → IsStore program (body_step program store item place).store

-- A legal loop carries nothing.
abbrev pub LegalCarriesNothing : Type 0
LegalCarriesNothing = (program : ProgramTree) → IsLegal program → CarriesNothing program

-- Its run over the list leaves a store that is alike with the one which the parts leave.
abbrev pub PartsLeaveAlike : Type 0
PartsLeaveAlike = (program : ProgramTree) → IsLegal program →
    (left right : List Value) (place : ℕ) →
    Alike program (from_start program (left ++ right) place).store
    (followed_by (from_start program left place)
    (from_start program right (place + length left))).store

-- So it ends as both parts end, with the same inputs of each reducer.
abbrev pub PartsEndAsWhole : Type 0
PartsEndAsWhole = (program : ProgramTree) → IsLegal program →
    (left right : List Value) (place : ℕ) →
    end_of_run program (from_start program (left ++ right) place)
    ≡ end_of_run program
    (followed_by (from_start program left place) (from_start program right (place + length left)))

-- From a store that is reached each run, of any loop, leaves one.
abbrev pub RunsReachStores : Type 0
RunsReachStores = (program : ProgramTree) (store : Bindings) → IsReached program store →
    (items : List Value) (place : ℕ) → IsReached program (loop_run program store items place).store

-- In a legal loop a store that is reached is a store, alike with the one in which the loop begins.
abbrev pub ReachedIsAlike : Type 0
ReachedIsAlike = (program : ProgramTree) → IsLegal program →
    (store : Bindings) → IsReached program store →
    IsStore program store × Alike program store (start_store program)

-- From each store that is reached a legal loop runs as from the start.
abbrev pub ReachedRunsAsStart : Type 0
ReachedRunsAsStart = (program : ProgramTree) → IsLegal program →
    (store : Bindings) → IsReached program store → (items : List Value) (place : ℕ) →
    SameRun program (loop_run program store items place) (from_start program items place)

-- From each store that is reached the step of an item at a place emits and ends as from the start: what it does depends on the
-- item and the place alone.
abbrev pub ReachedStepsAsStart : Type 0
ReachedStepsAsStart = (program : ProgramTree) → IsLegal program →
    (store : Bindings) → IsReached program store → (item : Value) (place : ℕ) →
    let step = body_step program store item place in
    let first = body_step program (start_store program) item place in
    (step.emitted ≡ first.emitted) × (step.end ≡ first.end)

-- A legal loop stops at the least place whose own step, taken from the start, stops it.
abbrev pub StopsLeftmost : Type 0
StopsLeftmost = (program : ProgramTree) → IsLegal program → (items : List Value) (place : ℕ) →
    place_of (from_start program items place).stop ≡ leftmost_from program items place

-- It stops there as the run over the item at that place alone does: its end depends on that item and its place.
abbrev pub StopIsItsItems : Type 0
StopIsItsItems = (program : ProgramTree) → IsLegal program → (items : List Value) (from place : ℕ) →
    leftmost_from program items from ≡ Some place → StopsAsItem program items from place

-- The rule on scratches is needed: with one path on which a scratch that is read isn't written, a loop carries something.
abbrev pub SometimesWrittenCarries : Type 0
SometimesWrittenCarries = CarriesNothing sometimes_written → ⊥

abbrev pub SometimesWrittenIsIllegal : Type 0
SometimesWrittenIsIllegal = IsLegal sometimes_written → ⊥

-- So is the rule on outer variables: a loop that assigns one carries something.
abbrev pub RunningSumCarries : Type 0
RunningSumCarries = CarriesNothing running_sum → ⊥

abbrev pub RunningSumIsIllegal : Type 0
RunningSumIsIllegal = IsLegal running_sum → ⊥

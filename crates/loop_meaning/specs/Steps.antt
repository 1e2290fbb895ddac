-- One step of the body: what a loop does for one item of its first head, from a store.
-- Source: Julia's `for` with several heads, whose last variable changes fastest; the widths are this project's.
use Rattle.std.specs.Prelude.{ℕ, ◌*◌, List, [], ◌∷◌, map, length, Result, Ok, Err, ℤ, pos}
use Rattle.std.specs.FinMap.{get, insert}
use Rattle.loop_data.specs.declared.value.Value.{Value}
use Rattle.loop_data.specs.declared.value.Value.TheVariants.{Int}
use Rattle.loop_data.specs.declared.head.Inner.{Inner}
use Rattle.loop_grammar.specs.declared.tree.ProgramTree.{ProgramTree}
use Rattle.loop_values.specs.declared.stop.EvalStop.{EvalStop}
use Rattle.loop_values.specs.Bindings.{Bindings, place_name}
use Rattle.loop_values.specs.InnerItems.{inner_items}
use Rattle.loop_meaning.specs.declared.steps.Flow.{Flow}
use Rattle.loop_meaning.specs.declared.steps.Flow.TheVariants.{Going, Continued, Broke, Faulted}
use Rattle.loop_meaning.specs.declared.steps.BodyRun.{BodyRun}
use Rattle.loop_meaning.specs.declared.steps.BodyEnd.{BodyEnd}
use Rattle.loop_meaning.specs.declared.steps.BodyEnd.TheVariants.{Next, Break, Fault}
use Rattle.loop_meaning.specs.declared.steps.Pair.{Pair}
use Rattle.loop_meaning.specs.Statements.{Action, block_run, faulting, in_turn, naming, with_pattern}
use Rattle.loop_meaning.specs.Stores.{keeping, stored_names}

-- ---- body runs

-- `continue` ends its body run alone
abbrev pub next_run : Flow → Flow
next_run Continued = Going
next_run flow = flow

-- one body run: all statements, one after another
abbrev pub body_run : ProgramTree → Action
body_run program run =
    let after = block_run program.body run in
    record after { flow = next_run after.flow }

-- these names, with the values that the stored ones among them have now
abbrev pub kept_names : ProgramTree → Bindings → Action
kept_names program before run = record run { names = keeping (stored_names program) before run.names }

-- of the names that the action binds or assigns only the stored ones keep their new values
abbrev pub keeping_the_store : ProgramTree → Action → Action
keeping_the_store program action run = kept_names program run.names (action run)

-- ---- inner heads

-- go on with the items, or end with the fault on this line
abbrev pub with_items : ℕ → Result (List ℤ) EvalStop → (List ℤ → Action) → Action
with_items line (Ok items) next = next items
with_items line (Err stop) next = faulting line stop

-- the action for one item, with the item under the name
abbrev pub for_item : ProgramTree → List ℕ → Action → ℤ → Action
for_item program name action item = keeping_the_store program (λ run. action (naming name (Int item) run))

-- the action once for each item, in order
abbrev pub for_each : ProgramTree → List ℕ → List ℤ → Action → Action
for_each program name items action = in_turn (map (for_item program name action) items)

-- The body runs of these inner heads, the first of them outermost, where there are `width` for each already: one for each
-- innermost item. A fault in a range has the line of the `for`.
abbrev pub inner_runs : ProgramTree → List Inner → ℕ → Action
inner_runs program [] width run = body_run program run
inner_runs program (head ∷ heads) width run =
    with_items program.head.line (inner_items head.range (get run.names) width)
    (λ items. for_each program head.name items (inner_runs program heads (width * length items))) run

-- ---- the step

-- the names at the start of a step: the store's, the place, and the item under the head's pattern
abbrev pub names_for : ProgramTree → Bindings → Value → ℕ → Bindings
names_for program store item place = with_pattern (insert store place_name (Int (pos place))) program.head.names item

-- what a step leaves: the store, what it emitted in order, and its end
pub record Step : Type 0 where
  pub store : Bindings
  pub emitted : List Pair
  pub end : BodyEnd

abbrev pub end_of : Flow → BodyEnd
end_of Going = Next
end_of Continued = Next
end_of (Broke line) = Break line
end_of (Faulted line kind) = Fault line kind

-- what is left of a step's body runs: the stored names live on
abbrev pub step_of : ProgramTree → Bindings → BodyRun → Step
step_of program store run = record {
  store = keeping (stored_names program) store run.names;
  emitted = run.emitted;
  end = end_of run.flow;
}

-- the body run of a step before its first statement
abbrev pub first_run : Bindings → BodyRun
first_run names = record { names = names; emitted = []; flow = Going }

-- One step of the body: the new store, the emitted inputs in order, and the end. What the statements before a break or a fault
-- emitted and assigned is in it.
abbrev pub body_step : ProgramTree → Bindings → Value → ℕ → Step
body_step program store item place =
    step_of program store (inner_runs program program.head.inner 1 (first_run (names_for program store item place)))

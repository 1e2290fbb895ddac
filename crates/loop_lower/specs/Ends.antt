-- How a loop ended that was folded whole, with the start values in its states.
-- Source: this project.
use Rattle.std.specs.Prelude.{◌≡◌, ℕ, List, ◌++◌}
use Rattle.loop_data.specs.declared.value.Value.{Value}
use Rattle.loop_grammar.specs.declared.tree.ProgramTree.{ProgramTree}
use Rattle.loop_meaning.specs.declared.runs.PlainStop.{PlainStop}
use Rattle.loop_meaning.specs.declared.runs.PlainStop.TheVariants as stop
use Rattle.loop_meaning.specs.declared.runs.Run.{Run}
use Rattle.loop_meaning.specs.Runs.{loop_run}
use Rattle.loop_meaning.specs.Stores.{start_store}
use Rattle.reducer_tower.specs.declared.named.Named.{Named}
use Rattle.reducer_tower.specs.declared.row.RowState.{RowState}
use Rattle.reducer_tower.specs.Rows.{RowStands, starts_of}
use Rattle.program_rows.specs.Pairs.{numbered}
use Rattle.loop_lower.specs.declared.ends.LoopEnd.{LoopEnd}
use Rattle.loop_lower.specs.declared.ends.LoopEnd.TheVariants as ends

-- the plain loop over these items, from the store in which it begins and place 1
abbrev pub run_over : ProgramTree → List Value → Run
run_over program items = loop_run program (start_store program) items 1

-- the run didn't end in a fault
abbrev pub HasNoFault : PlainStop → Type 0
HasNoFault how = (at line kind : ℕ) → how ≡ stop.Fault at line kind → ⊥

-- The run didn't end in a fault; the states stand for the start values followed by what counts of what it emitted.
pub record IsDone (row : List Named) (run : Run) (state : RowState) (skipped : ℕ) : Type 0 where
  pub no_fault : HasNoFault run.stop
  pub skips : skipped ≡ run.skipped
  pub stands : RowStands row state.states.items (starts_of row ++ numbered row run.emitted)

-- the end of a run
abbrev pub IsEnd : List Named → Run → LoopEnd → Type 0
IsEnd row run (ends.Done state skipped) = IsDone row run state skipped
IsEnd row run (ends.Faulted at line kind) = run.stop ≡ stop.Fault at line kind

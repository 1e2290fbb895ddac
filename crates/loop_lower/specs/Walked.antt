-- What a part keeps from item to item, and what an item does to it. No public clause cites it.
-- Source: this project.
use Rattle.std.specs.Prelude.{◌≡◌, ◌<◌, ◌+◌, ◌^◌, ℕ, Bool, true, false, List, [], ◌∷◌, length, pos}
use Rattle.std.specs.FinMap.{insert}
use Rattle.loop_data.specs.declared.value.Value.{Value}
use Rattle.loop_data.specs.declared.value.Value.TheVariants.{Int}
use Rattle.loop_grammar.specs.declared.tree.ProgramTree.{ProgramTree}
use Rattle.loop_values.specs.Bindings.{Bindings, place_name}
use Rattle.loop_meaning.specs.declared.runs.PlainStop.TheVariants as stop
use Rattle.loop_meaning.specs.declared.runs.Run.{Run}
use Rattle.loop_meaning.specs.declared.steps.Pair.{Pair}
use Rattle.loop_meaning.specs.Steps.{body_step}
use Rattle.loop_meaning.specs.Stores.{start_store}
use Rattle.carries_nothing.specs.Parts.{from_start}
use Rattle.reducer_tower.specs.declared.named.Named.{Named}
use Rattle.program_rows.specs.Pairs.{HaveRoom, TakeBehind, numbered, pairs_fit}
use Rattle.chain_stages.specs.declared.step_end.StepEnd.{StepEnd}
use Rattle.chain_stages.specs.declared.step_end.StepEnd.TheVariants.{Going, Ended, Fault}
use Rattle.chain_stages.specs.Elements.{with_item}
use Rattle.loop_stages.specs.Breaks.{stage_line}
use Rattle.loop_lower.specs.declared.part.Walked.{Walked}

abbrev pub is_fault : StepEnd → Bool
is_fault Going = false
is_fault (Ended line) = false
is_fault (Fault line kind) = true

-- the names with which an item's element begins: the store in which the loop begins, the place, and the item
abbrev pub names_at : ProgramTree → Value → ℕ → Bindings
names_at program item place =
    with_item (insert (start_store program) place_name (Int (pos place))) program.head.names item

-- the pairs that the step of an item from the start emits, at this place, also where it faults
abbrev pub step_pairs : ProgramTree → Value → ℕ → List Pair
step_pairs program item place = (body_step program (start_store program) item place).emitted

-- an item may be taken at this place: no pair is left over, its pairs fit the row, and the states have room
pub record MayBeTaken (program : ProgramTree) (row : List Named) (item : Value) (at : ℕ) (before : Walked) : Type 0 where
  pub low : at < 2 ^ 63
  pub few : before.state.skipped < 2 ^ 63
  pub emptied : before.emitted ≡ []
  pub fit : pairs_fit row (step_pairs program item at) ≡ true
  pub room : HaveRoom row before.state.row (length (step_pairs program item at))

-- the run from the start over one item, at this place
abbrev pub item_run : ProgramTree → Value → ℕ → Run
item_run program item place = from_start program (item ∷ []) place

-- What counts of what a run emitted is behind what the states held, and its skipped faults are counted; no pair is left
-- over.
pub record Adds (row : List Named) (run : Run) (before after : Walked) : Type 0 where
  pub states : TakeBehind row before.state.row after.state.row (numbered row run.emitted)
  pub skips : after.state.skipped ≡ before.state.skipped + run.skipped
  pub emptied : after.emitted ≡ []

-- what the run of an item does to a part, and how it ends; after a fault that isn't skipped the part is over
abbrev pub IsItemTaken : ProgramTree → List Named → Run → ℕ → Walked → Walked → StepEnd → Type 0
IsItemTaken program row run place before after Going = (run.stop ≡ stop.Ran) × Adds row run before after
IsItemTaken program row run place before after (Ended line) =
    (own : ℕ) × (run.stop ≡ stop.Break place own) × (line ≡ stage_line program own) × Adds row run before after
IsItemTaken program row run place before after (Fault line kind) = run.stop ≡ stop.Fault place line kind

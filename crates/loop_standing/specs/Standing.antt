-- What the answer of a stretch of a loop's items stands for: the run of the plain loop from the start over these items.
-- Source: this project; the run is a loop read from top to bottom.
use Rattle.std.specs.Prelude.{◌≡◌, ◌≤◌, ℕ, ◌-◌, ◌+◌, true, List, [], drop, length, take}
use Rattle.number_ranges.specs.Ranges.{most_items}
use Rattle.loop_data.specs.declared.value.Value.{Value}
use Rattle.loop_grammar.specs.WellFormed.{is_well_formed}
use Rattle.loop_grammar.specs.declared.tree.ProgramTree.{ProgramTree}
use Rattle.legality_rules.specs.Offences.{IsLegal}
use Rattle.loop_meaning.specs.declared.runs.PlainStop.TheVariants as stop
use Rattle.loop_meaning.specs.declared.runs.Run.{Run}
use Rattle.carries_nothing.specs.Parts.{from_start}
use Rattle.reducer_laws.specs.Standing.{TakesTogether}
use Rattle.reducer_tower.specs.declared.named.Named.{Named}
use Rattle.reducer_tower.specs.declared.row.Emitted.{Emitted}
use Rattle.reducer_tower.specs.declared.row.RowState.{RowState}
use Rattle.reducer_tower.specs.Rows.{RowStands}
use Rattle.fold_seq.specs.declared.answers.Reduced.{Reduced}
use Rattle.fold_seq.specs.declared.answers.Reduced.TheVariants.{Going, Stopped, Faulted}
use Rattle.loop_stages.specs.Breaks.{stage_line}
use Rattle.loop_standing.specs.declared.state.LoopState.{LoopState}
use Rattle.program_rows.specs.Pairs.{numbered}

-- so many items from this place on, or those of them that there are
abbrev pub stretch_of : List Value → ℕ → ℕ → List Value
stretch_of items first count = take count (drop (first - 1) items)

-- the run of the plain loop over a stretch of the items, from the store in which the loop begins and the stretch's first place
abbrev pub stretch_run : ProgramTree → List Value → ℕ → ℕ → Run
stretch_run program items first count = from_start program (stretch_of items first count) first

-- the states of the row stand for these inputs
abbrev pub StateStands : List Named → RowState → List Emitted → Type 0
StateStands row state inputs = RowStands row state.states.items inputs

-- the state stands for what counts of what a run emitted, and has its number of skipped faults
pub record HoldsRun (row : List Named) (run : Run) (state : LoopState) : Type 0 where
  pub stands : RowStands row state.row.states.items (numbered row run.emitted)
  pub skips : state.skipped ≡ run.skipped

-- What a run's answer is. It ran to its end: the state holds the run. It broke: so it does, at this place, and the line is that of
-- the stage to which the `break` is lowered. It faulted: at this place, on this line, with a fault of this kind.
abbrev pub Answers : ProgramTree → List Named → Run → Reduced LoopState → Type 0
Answers program row run (Going state) = (run.stop ≡ stop.Ran) × HoldsRun row run state
Answers program row run (Stopped at line state) =
    (own : ℕ) × (run.stop ≡ stop.Break at own) × (line ≡ stage_line program own) × HoldsRun row run state
Answers program row run (Faulted at line kind) = run.stop ≡ stop.Fault at line kind

-- what the answer of a stretch stands for
abbrev pub StretchStands : ProgramTree → List Named → List Value → ℕ → ℕ → Reduced LoopState → Type 0
StretchStands program row items first count answer = Answers program row (stretch_run program items first count) answer

-- a state that holds nothing
pub record IsUnit (row : List Named) (state : LoopState) : Type 0 where
  pub stands : RowStands row state.row.states.items []
  pub skips : state.skipped ≡ 0

-- whichever lists of inputs the states stand for, those of the whole stand for the left's followed by the right's; skipped faults
-- add
pub record Merges (row : List Named) (left right whole : LoopState) : Type 0 where
  pub stands : TakesTogether (StateStands row) left.row right.row whole.row
  pub skips : whole.skipped ≡ left.skipped + right.skipped

-- what is known of a loop that is folded in parts: it is legal, a text spells it, and it has few items
pub record IsFoldable (program : ProgramTree) (items : List Value) : Type 0 where
  pub legal : IsLegal program
  pub formed : is_well_formed program ≡ true
  pub few_items : length items ≤ most_items

-- Rows of reducers whose states stand for what a run emitted.
-- Source: this project.
use Rattle.std.specs.Prelude.{◌≡◌, List, ◌++◌}
use Rattle.loop_grammar.specs.declared.tree.ProgramTree.{ProgramTree}
use Rattle.loop_meaning.specs.declared.steps.Pair.{Pair}
use Rattle.reducer_tower.specs.declared.row.Row.{Row}
use Rattle.reducer_tower.specs.declared.row.RowState.{RowState}
use Rattle.reducer_tower.specs.declared.row.Emitted.{Emitted as Input}
use Rattle.reducer_tower.specs.Rows.{RowStands, starts_of}
use Rattle.program_rows.specs.Pairs.{numbered}
use Rattle.program_rows.specs.Rows.{row_of}
use Rattle.loop_meaning.specs.declared.runs.Run.{Run}
use Rattle.loop_lower.specs.declared.ends.LoopEnd.{LoopEnd}
use Rattle.loop_lower.specs.Ends.{IsEnd}

-- the states stand for these inputs
abbrev pub StandFor : Row → RowState → List Input → Type 0
StandFor row state inputs = RowStands row.towers.items state.states.items inputs

-- the states stand for some inputs
abbrev pub StandForSome : Row → RowState → Type 0
StandForSome row state = (inputs : List Input) × StandFor row state inputs

-- The row is that of the program's reducers, and its states stand for their start values and what counts of what was emitted.
pub record AreResults (program : ProgramTree) (row : Row) (state : RowState) (emitted : List Pair) : Type 0 where
  pub reducers : row.towers.items ≡ row_of program
  pub stands : StandFor row state (starts_of row.towers.items ++ numbered row.towers.items emitted)

-- the end of a run into the row
abbrev pub IsSomeEnd : Row → LoopEnd → Type 0
IsSomeEnd row end = (run : Run) × IsEnd row.towers.items run end

-- the row is that of the program's reducers, and this is the end of the run into it
pub record IsRowEnd (program : ProgramTree) (row : Row) (run : Run) (end : LoopEnd) : Type 0 where
  pub reducers : row.towers.items ≡ row_of program
  pub ended : IsEnd row.towers.items run end

-- Runs that give the same, and what it is that a loop carries nothing: its run over a list gives what its runs over the parts of
-- each cut give.
-- Source: this project.
use Rattle.std.specs.Prelude.{◌≡◌, ◌≤◌, ℕ, ◌+◌, ◌-◌, List, [], ◌∷◌, ◌++◌, length, Some, slice_get}
use Rattle.loop_data.specs.declared.value.Value.{Value}
use Rattle.loop_grammar.specs.declared.tree.ProgramTree.{ProgramTree}
use Rattle.loop_meaning.specs.declared.runs.Run.{Run}
use Rattle.loop_meaning.specs.Runs.{followed_by, loop_run}
use Rattle.loop_meaning.specs.Stores.{start_store}
use Rattle.carries_nothing.specs.Alike.{Alike}

-- two runs give the same: the same pairs and the same number of skipped faults, and they stop in the same way
pub record GivesSame (run other : Run) : Type 0 where
  pub emitted : run.emitted ≡ other.emitted
  pub skipped : run.skipped ≡ other.skipped
  pub stop : run.stop ≡ other.stop

-- two runs are the same: they give the same, and the stores that they leave are alike
pub record SameRun (program : ProgramTree) (run other : Run) : Type 0 where
  pub given : GivesSame run other
  pub store : Alike program run.store other.store

-- the run from the start over a list whose first item has this place
abbrev pub from_start : ProgramTree → List Value → ℕ → Run
from_start program items place = loop_run program (start_store program) items place

-- The run over a list, with one store that lives on, gives what the run over its left part gives and, where that ran to its end,
-- then the run over its right part: each from the start, and from the place of its first item. What stores they leave isn't
-- asked.
abbrev pub CarriesNothing : ProgramTree → Type 0
CarriesNothing program = (left right : List Value) (place : ℕ) →
    GivesSame (from_start program (left ++ right) place)
    (followed_by (from_start program left place) (from_start program right (place + length left)))

-- The run from the start over a list, whose first item has the place `from`, stops at the item at this place as the run from the
-- start over that item alone: at the same place, and in the same way, so that a break has the same line, and a fault the same
-- line and kind.
pub record StopsAsItem (program : ProgramTree) (items : List Value) (from place : ℕ) : Type 0 where
  pub item : Value
  pub reached : from ≤ place
  pub is : slice_get items (place - from) ≡ Some item
  pub stop : (from_start program items from).stop ≡ (from_start program (item ∷ []) place).stop

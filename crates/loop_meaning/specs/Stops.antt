-- Which items stop a loop, each looked at by itself, and the leftmost of them.
-- Source: this project.
use Rattle.std.specs.Prelude.{◌≡◌, ◌≤◌, ◌-◌, ◌+◌, ℕ, Bool, true, false, not, if◌then◌else◌, List, [], ◌∷◌, Option, Some}
use Rattle.std.specs.Prelude.{None, slice_get}
use Rattle.loop_data.specs.declared.value.Value.{Value}
use Rattle.loop_grammar.specs.SkippedFaults.{skips_faults}
use Rattle.loop_grammar.specs.declared.tree.ProgramTree.{ProgramTree}
use Rattle.loop_meaning.specs.declared.steps.BodyEnd.{BodyEnd}
use Rattle.loop_meaning.specs.declared.steps.BodyEnd.TheVariants as end
use Rattle.loop_meaning.specs.Steps.{body_step}
use Rattle.loop_meaning.specs.Stores.{start_store}

-- a break, or a fault where faults aren't skipped
abbrev pub is_stop : Bool → BodyEnd → Bool
is_stop skips end.Next = false
is_stop skips (end.Break line) = true
is_stop skips (end.Fault line kind) = not skips

-- whether the item at this place stops, its step being done from the store in which the loop begins
abbrev pub stops : ProgramTree → Value → ℕ → Bool
stops program item place = is_stop (skips_faults program) (body_step program (start_store program) item place).end

-- there is an item at this place, counted from 1, and it stops
pub record StopsAt (program : ProgramTree) (items : List Value) (place : ℕ) : Type 0 where
  pub item : Value
  pub counted : 1 ≤ place
  pub is : slice_get items (place - 1) ≡ Some item
  pub stops_there : stops program item place ≡ true

-- the least place at which one of the items stops, the first of them having this place
abbrev pub leftmost_from : ProgramTree → List Value → ℕ → Option ℕ
leftmost_from program [] place = None
leftmost_from program (item ∷ items) place =
    if stops program item place then Some place else leftmost_from program items (place + 1)

abbrev pub leftmost_stop : ProgramTree → List Value → Option ℕ
leftmost_stop program items = leftmost_from program items 1

-- What the statements of a body do in one body run, one after another.
-- Source: this project's language, after FLoops.jl.
use Rattle.std.specs.Prelude.{ℕ, Bool, true, false, if◌then◌else◌, List, [], ◌∷◌, ◌++◌, map, Ok, Err}
use Rattle.std.specs.FinMap.{get, insert}
use Rattle.loop_data.specs.ValueParts.{as_bool, parts_of}
use Rattle.loop_data.specs.declared.value.Value.{Value}
use Rattle.loop_data.specs.declared.value.Value.TheVariants.{Nothing}
use Rattle.loop_data.specs.declared.statement.Statement.{Statement}
use Rattle.loop_data.specs.declared.statement.Branch.{Branch}
use Rattle.loop_data.specs.declared.statement.Statement.TheOpen.{Statement-F, Statement-F as s, Branch-F}
use Rattle.loop_data.specs.declared.statement.Statement.TheFolds.{fold-Statement, fold-Branch}
use Rattle.loop_values.specs.declared.stop.EvalStop.{EvalStop}
use Rattle.loop_values.specs.Bindings.{Bindings}
use Rattle.loop_values.specs.Operations.{Outcome}
use Rattle.loop_values.specs.Stops.{fault_number}
use Rattle.loop_values.specs.Values.{Meaning, value_of}
use Rattle.tower_inputs.specs.Inputs.{input_of}
use Rattle.loop_meaning.specs.declared.steps.Flow.{Flow}
use Rattle.loop_meaning.specs.declared.steps.Flow.TheVariants.{Going, Continued, Broke, Faulted}
use Rattle.loop_meaning.specs.declared.steps.BodyRun.{BodyRun}

-- what is done in a body run: from how it stands before to how it stands after
abbrev pub Action : Type 0
Action = BodyRun → BodyRun

-- ---- the parts of a statement

-- from here on the body run stands so
abbrev pub ending : Flow → Action
ending flow run = record run { flow = flow }

-- a fault on this line, of the kind that has the stop's number, ends it
abbrev pub faulting : ℕ → EvalStop → Action
faulting line stop = ending (Faulted line (fault_number stop))

-- the name has the value
abbrev pub naming : List ℕ → Value → Action
naming name v run = record run { names = insert run.names name v }

-- the input goes to the reducer of that name
abbrev pub emitting : List ℕ → Value → Action
emitting name v run = record run { emitted = run.emitted ++ record { name = name; input = v } ∷ [] }

-- the names bound to the parts of a tuple, one by one
abbrev pub with_parts : Bindings → List (List ℕ) → List Value → Bindings
with_parts names (n ∷ ns) (v ∷ vs) = with_parts (insert names n v) ns vs
with_parts names _ _ = names

-- one name bound to the value, or several to the parts of the tuple that it is
abbrev pub with_pattern : Bindings → List (List ℕ) → Value → Bindings
with_pattern names (n ∷ []) v = insert names n v
with_pattern names ns v = with_parts names ns (parts_of v)

abbrev pub matching : List (List ℕ) → Value → Action
matching pattern v run = record run { names = with_pattern run.names pattern v }

-- `@keep` of nothing ends the body run; of another value it names the value
abbrev pub keeping_something : List ℕ → Value → Action
keeping_something name Nothing = ending Continued
keeping_something name v = naming name v

-- go on with the value, or end with the fault on this line
abbrev pub with_value : ℕ → Outcome → (Value → Action) → Action
with_value line (Ok v) next = next v
with_value line (Err stop) next = faulting line stop

-- the same with what an expression, or the input of a tower, means at this point
abbrev pub evaluating : ℕ → Meaning → (Value → Action) → Action
evaluating line meaning next run = with_value line (meaning (get run.names)) next run

-- ---- statements one after another

abbrev pub is_going : Flow → Bool
is_going Going = true
is_going _ = false

-- done only where the body run hasn't ended
abbrev pub while_going : Action → Action
while_going action run = if is_going run.flow then action run else run

abbrev pub in_turn : List Action → Action
in_turn [] run = run
in_turn (action ∷ actions) run = in_turn actions (while_going action run)

-- ---- statements

-- a condition with its block, told what is done where the condition is false
abbrev pub Choice : Type 0
Choice = Action → Action

-- the first of the blocks whose condition is true, or the block after `else`
abbrev pub first_true : List Choice → Action → Action
first_true [] other = other
first_true (choice ∷ choices) other = choice (first_true choices other)

-- one layer of a condition with its block: a fault of the condition has its own line
abbrev pub branch_step : Branch-F Action Choice → Choice
branch_step b otherwise = evaluating b.line (value_of b.test) (λ v. if as_bool v then in_turn b.block else otherwise)

-- one layer of a statement, given what its parts do
abbrev pub statement_step : Statement-F Action Choice → Action
statement_step (s.Let line pattern x) = evaluating line (value_of x) (matching pattern)
statement_step (s.Set line name x) = evaluating line (value_of x) (naming name)
statement_step (s.If line branches else_line other end_line) = first_true branches (in_turn other)
statement_step (s.Keep line name x) = evaluating line (value_of x) (keeping_something name)
statement_step (s.Reduce line name tower start) = evaluating line (input_of tower) (emitting name)
statement_step (s.Continue line) = ending Continued
statement_step (s.Break line) = ending (Broke line)

abbrev pub statement_run : Statement → Action
statement_run = fold-Statement Action Choice statement_step branch_step

abbrev pub branch_run : Branch → Choice
branch_run = fold-Branch Action Choice statement_step branch_step

abbrev pub block_run : List Statement → Action
block_run block = in_turn (map statement_run block)

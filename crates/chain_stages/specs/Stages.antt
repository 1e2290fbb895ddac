-- What each stage lets through for one element.
-- Source: this project, after Transducers.jl.
use Rattle.std.specs.Prelude.{ℕ, ◌*◌, Bool, true, false, not, List, [], ◌∷◌, map, Option, Some, None, Result, Ok, Err, ℤ}
use Rattle.std.specs.FinMap.{get, insert}
use Rattle.loop_data.specs.declared.value.Value.{Value}
use Rattle.loop_data.specs.declared.value.Value.TheVariants.{Int, Nothing}
use Rattle.loop_values.specs.declared.stop.EvalStop.{EvalStop}
use Rattle.loop_data.specs.ValueParts.{as_bool, parts_of}
use Rattle.loop_values.specs.InnerItems.{Ranged, items_of, range_of}
use Rattle.loop_values.specs.Operations.{Outcome}
use Rattle.loop_values.specs.Stops.{fault_number}
use Rattle.loop_values.specs.Values.{value_of}
use Rattle.loop_meaning.specs.declared.steps.BodyRun.{BodyRun}
use Rattle.loop_meaning.specs.declared.steps.Flow.{Flow}
use Rattle.loop_meaning.specs.declared.steps.Flow.TheVariants as flow
use Rattle.loop_meaning.specs.Statements.{block_run, statement_run, with_parts}
use Rattle.chain_stages.specs.declared.element.Element.{Element}
use Rattle.chain_stages.specs.declared.element.Mark.{Mark}
use Rattle.chain_stages.specs.declared.element.Mark.TheVariants as mark
use Rattle.chain_stages.specs.declared.step_end.StepEnd.{StepEnd}
use Rattle.chain_stages.specs.declared.step_end.StepEnd.TheVariants.{Going, Ended, Fault}
use Rattle.chain_stages.specs.declared.stages.Doing.{Doing}
use Rattle.chain_stages.specs.declared.stages.Doing.TheVariants.{Bind, Inner, Block, Rest}
use Rattle.chain_stages.specs.declared.stages.Source.{Source}
use Rattle.chain_stages.specs.declared.stages.Source.TheVariants.{Item, Of}
use Rattle.chain_stages.specs.declared.stages.Stage.{Stage}
use Rattle.chain_stages.specs.declared.stages.Stage.TheVariants.{Map, MapSplat, Filter, KeepSomething, Cat, ReduceIf}
use Rattle.chain_stages.specs.declared.stages.Test.{Test}
use Rattle.chain_stages.specs.declared.stages.Test.TheVariants as test
use Rattle.chain_stages.specs.Elements.{binding, item_name, left_by, run_of, without_pairs}

-- elements in order, and the end that stands after the last of them
pub record Output : Type 0 where
  pub elements : List Element
  pub end : StepEnd

abbrev pub output : List Element → StepEnd → Output
output elements end = record { elements = elements; end = end }

-- one element, after which what follows is taken too
abbrev pub alone : Element → Output
alone e = output (e ∷ []) Going

-- no element, and then the end
abbrev pub nothing : StepEnd → Output
nothing end = output [] end

abbrev pub faulted : ℕ → EvalStop → Output
faulted line stop = nothing (Fault line (fault_number stop))

-- go on with the value, or end with the fault on this line
abbrev pub with_value : ℕ → Outcome → (Value → Output) → Output
with_value line (Ok v) next = next v
with_value line (Err stop) next = faulted line stop

-- ---- Map

abbrev pub with_range : ℕ → Ranged → Element → Output
with_range line (Ok r) e = alone (record e { inner = r })
with_range line (Err stop) e = faulted line stop

-- the element after statements that ended so: a fault has its own line
abbrev pub after_flow : Flow → BodyRun → Element → Output
after_flow flow.Going run e = alone (left_by run mark.Going e)
after_flow flow.Continued run e = alone (left_by run mark.Ended e)
after_flow (flow.Broke line) run e = alone (left_by run mark.Broke e)
after_flow (flow.Faulted line kind) run e = nothing (Fault line kind)

abbrev pub after_run : BodyRun → Element → Output
after_run run e = after_flow run.flow run e

abbrev pub mapped : ℕ → Doing → Element → Output
mapped line (Bind name x) e = with_value line (value_of x (get e.env)) (λ v. alone (binding name v e))
mapped line (Inner name r) e = with_range line (range_of r (get e.env) e.width) e
mapped line (Block statement) e = after_run (without_pairs e (statement_run statement (run_of e))) e
mapped line (Rest statements) e = after_run (block_run statements (run_of e)) e

-- ---- MapSplat

-- each name bound to its part of a tuple
abbrev pub splatted : List (List ℕ) → Value → Element → Element
splatted names v e = record e { env = with_parts e.env names (parts_of v) }

abbrev pub or_nothing : Option Value → Value
or_nothing (Some v) = v
or_nothing None = Nothing

abbrev pub map_splatted : ℕ → List (List ℕ) → Source → Element → Output
map_splatted line names Item e = alone (splatted names (or_nothing (get e.env item_name)) e)
map_splatted line names (Of x) e = with_value line (value_of x (get e.env)) (λ v. alone (splatted names v e))

-- ---- Filter and ReduceIf

-- what a test answers, or its fault
abbrev pub Answer : Type 0
Answer = Result Bool EvalStop

abbrev pub truth : Outcome → Answer
truth (Ok v) = Ok (as_bool v)
truth (Err stop) = Err stop

abbrev pub untruth : Outcome → Answer
untruth (Ok v) = Ok (not (as_bool v))
untruth (Err stop) = Err stop

abbrev pub is_broke : Mark → Bool
is_broke mark.Broke = true
is_broke _ = false

abbrev pub is_going : Mark → Bool
is_going mark.Going = true
is_going _ = false

-- whether an element passes
abbrev pub passes : Test → Element → Answer
passes (test.If x) e = truth (value_of x (get e.env))
passes (test.IfNot x) e = untruth (value_of x (get e.env))
passes test.Broke e = Ok (is_broke e.mark)
passes test.Going e = Ok (is_going e.mark)
passes test.Always e = Ok true
passes test.Never e = Ok false

-- the element, where it passes
abbrev pub filtered : ℕ → Answer → Element → Output
filtered line (Ok true) e = alone e
filtered line (Ok false) e = nothing Going
filtered line (Err stop) e = faulted line stop

-- the element; where it passes, the list ends after it on this line
abbrev pub reduced_if : ℕ → Answer → Element → Output
reduced_if line (Ok true) e = output (e ∷ []) (Ended line)
reduced_if line (Ok false) e = alone e
reduced_if line (Err stop) e = faulted line stop

-- ---- KeepSomething

-- the value bound to the name, where it isn't nothing
abbrev pub kept : List ℕ → Element → Value → Output
kept name e Nothing = nothing Going
kept name e v = alone (binding name v e)

-- ---- Cat

-- the element for one item of its inner range
abbrev pub spread : List ℕ → Element → ℤ → Element
spread name e item = record e { env = insert e.env name (Int item); width = e.width * e.inner.count }

-- ---- each stage

-- what a stage lets through for one element
abbrev pub through : Stage → Element → Output
through (Map line action) e = mapped line action e
through (MapSplat line names source) e = map_splatted line names source e
through (Filter line t) e = filtered line (passes t e) e
through (KeepSomething line name x) e = with_value line (value_of x (get e.env)) (kept name e)
through (Cat line name) e = output (map (spread name e) (items_of e.inner)) Going
through (ReduceIf line t) e = reduced_if line (passes t e) e

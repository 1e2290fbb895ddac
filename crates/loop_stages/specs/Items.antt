-- The items of a loop, each taken through the chain alone.
-- Source: this project, after Transducers.jl and FLoops.jl.
use Rattle.std.specs.Prelude.{ℕ, ◌+◌, Bool, true, false, List, [], ◌∷◌, ◌++◌}
use Rattle.loop_data.specs.declared.value.Value.{Value}
use Rattle.loop_grammar.specs.SkippedFaults.{skips_faults}
use Rattle.loop_grammar.specs.declared.tree.ProgramTree.{ProgramTree}
use Rattle.loop_meaning.specs.declared.steps.Pair.{Pair}
use Rattle.loop_meaning.specs.declared.runs.PlainStop.{PlainStop}
use Rattle.loop_meaning.specs.declared.runs.PlainStop.TheVariants as stop
use Rattle.chain_stages.specs.declared.step_end.StepEnd.{StepEnd}
use Rattle.chain_stages.specs.declared.step_end.StepEnd.TheVariants.{Going, Ended, Fault}
use Rattle.chain_stages.specs.Chains.{chain_output}
use Rattle.chain_stages.specs.Elements.{element_of, emitted_by}
use Rattle.chain_stages.specs.Stages.{Output, alone}
use Rattle.loop_stages.specs.Lowering.{lowered}

-- what leaves the chain for an item at a place, alone
abbrev pub item_output : ProgramTree → Value → ℕ → Output
item_output program item place = chain_output (lowered program) (alone (element_of program item place))

-- what items gave: the emitted pairs in order, how many of them were left out, and where and how the last of them ended
pub record Taken : Type 0 where
  pub emitted : List Pair
  pub left_out : ℕ
  pub stop : PlainStop

abbrev pub taken : List Pair → ℕ → PlainStop → Taken
taken emitted left_out stop = record { emitted = emitted; left_out = left_out; stop = stop }

-- one item's pairs, and those of the items after it; an item that faults is left out where faults are skipped
abbrev pub with_item_output : Bool → StepEnd → List Pair → ℕ → Taken → Taken
with_item_output skips Going pairs place rest = record rest { emitted = pairs ++ rest.emitted }
with_item_output skips (Ended line) pairs place rest = taken pairs 0 (stop.Break place line)
with_item_output true (Fault line kind) pairs place rest = record rest { left_out = rest.left_out + 1 }
with_item_output false (Fault line kind) pairs place rest = taken pairs 0 (stop.Fault place line kind)

-- the items from this place on, each taken alone through the chain to which the program is lowered, up to the first that ends
abbrev pub items_taken : ProgramTree → List Value → ℕ → Taken
items_taken program [] place = taken [] 0 stop.Ran
items_taken program (item ∷ items) place =
    let output = item_output program item place in
    with_item_output (skips_faults program) output.end (emitted_by output.elements) place (items_taken program items (place + 1))

-- ---- two stretches

abbrev pub after_stop : PlainStop → Taken → Taken → Taken
after_stop stop.Ran first more = taken (first.emitted ++ more.emitted) (first.left_out + more.left_out) more.stop
after_stop _ first more = first

-- what a stretch gave and, where it came to no end, what the next one gave
abbrev pub then_taken : Taken → Taken → Taken
then_taken first more = after_stop first.stop first more

-- When what items give through the chain is what the plain loop gives: of one item, and of a run.
-- Source: this project.
use Rattle.std.specs.Prelude.{◌≡◌, List, ◌++◌}
use Rattle.loop_grammar.specs.declared.tree.ProgramTree.{ProgramTree}
use Rattle.loop_meaning.specs.declared.steps.BodyEnd.{BodyEnd}
use Rattle.loop_meaning.specs.declared.steps.BodyEnd.TheVariants as end
use Rattle.loop_meaning.specs.declared.steps.Pair.{Pair}
use Rattle.loop_meaning.specs.declared.runs.PlainStop.{PlainStop}
use Rattle.loop_meaning.specs.declared.runs.PlainStop.TheVariants as stop
use Rattle.loop_meaning.specs.declared.runs.Run.{Run}
use Rattle.loop_meaning.specs.Steps.{Step}
use Rattle.chain_stages.specs.declared.step_end.StepEnd.{StepEnd}
use Rattle.chain_stages.specs.declared.step_end.StepEnd.TheVariants as step_end
use Rattle.chain_stages.specs.Elements.{emitted_by}
use Rattle.chain_stages.specs.Stages.{Output}
use Rattle.loop_stages.specs.Breaks.{stage_line}
use Rattle.loop_stages.specs.Items.{Taken}

-- ---- one item

-- the ends of a step and of an item's output: a fault has the same line and kind, a break the line of its stage
abbrev pub SameEnd : ProgramTree → BodyEnd → StepEnd → Type 0
SameEnd program end.Next step_end.Going = Unit {0}
SameEnd program (end.Break line) (step_end.Ended stage) = stage ≡ stage_line program line
SameEnd program (end.Fault line kind) (step_end.Fault line' kind') = (line ≡ line') × (kind ≡ kind')
SameEnd program _ _ = ⊥

-- the pairs are the same; where the step ends in a fault, those that leave the chain are a front of those of the step
abbrev pub SamePairsAt : BodyEnd → List Pair → List Pair → Type 0
SamePairsAt (end.Fault line kind) emitted other = (more : List Pair) × (emitted ≡ other ++ more)
SamePairsAt _ emitted other = emitted ≡ other

-- what leaves the chain for an item is what its step emits, and both end in the same way
pub record IsAsStep (program : ProgramTree) (step : Step) (made : Output) : Type 0 where
  pub emitted : SamePairsAt step.end step.emitted (emitted_by made.elements)
  pub end : SameEnd program step.end made.end

-- ---- runs

-- the ends have the same place; a fault has the same line and kind, a break the line of its stage
abbrev pub SameStop : ProgramTree → PlainStop → PlainStop → Type 0
SameStop program stop.Ran stop.Ran = Unit {0}
SameStop program (stop.Break at line) (stop.Break at' line') = (at ≡ at') × (line' ≡ stage_line program line)
SameStop program (stop.Fault at line kind) (stop.Fault at' line' kind') = (at ≡ at') × (line ≡ line') × (kind ≡ kind')
SameStop program _ _ = ⊥

-- the emitted pairs are the same, where the run doesn't end in a fault
abbrev pub SamePairs : PlainStop → List Pair → List Pair → Type 0
SamePairs (stop.Fault at line kind) emitted other = Unit {0}
SamePairs _ emitted other = emitted ≡ other

-- what items gave through the chain is what the run of the plain loop gave
pub record IsAsRun (program : ProgramTree) (run : Run) (items : Taken) : Type 0 where
  pub emitted : SamePairs run.stop run.emitted items.emitted
  pub left_out : run.skipped ≡ items.left_out
  pub stop : SameStop program run.stop items.stop

use Rattle.std.proofs.Common.{◌≡◌, length}
use Rattle.loop_nesting.specs.declared.open.Stage.TheVariants as stage
use Rattle.loop_nesting.specs.Reading.{run, most_ifs}
use Rattle.loop_nesting.proofs.read.run.Given as goal

abbrev pub invariant-loop-line : goal.invariant-loop-line
invariant-loop-line l = run most_ifs l.stage l.lines.items ≡ run most_ifs stage.Start l.fn.lines.items

abbrev pub decreases-loop-line : goal.decreases-loop-line
decreases-loop-line l = length l.lines.items

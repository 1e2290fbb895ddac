use Rattle.std.proofs.Common.{◌≡◌, ◌+◌, ◌++◌, drop}
use Rattle.loop_chain.specs.Explain.{lines_in, stage_lines}
use Rattle.loop_chain.proofs.explain.add_stage_lines.Given as goal

-- the lines of the stages that are left make the whole
abbrev pub invariant-loop-stage : goal.invariant-loop-stage
invariant-loop-stage l = record {
  number : l.number ≡ l.stage-index + 1;
  lines : lines_in l.lines.items ++ stage_lines (l.stage-index + 1) (drop l.stage-index l.stages) ≡ lines_in l.initial.lines.items ++ stage_lines 1 l.stages;
}

use Rattle.std.proofs.Common.{◌≡◌, length, take}
use Rattle.floop_run.specs.Written.{joined}
use Rattle.floop_run.specs.Outputs.{lines_in}
use Rattle.floop_run.proofs.output.total_length.Given as goal

abbrev pub invariant-loop-line : goal.invariant-loop-line
invariant-loop-line l = l.total ≡ length (joined (lines_in (take l.line-index l.lines)))

use Rattle.std.proofs.Common.{take, map}
use Rattle.loop_writer.specs.Programs.{init_line}
use Rattle.loop_writer.specs.Writing.{Wrote}
use Rattle.loop_writer.proofs.program.write_scratch.Given as goal

-- the lines so far were written
abbrev pub invariant-loop-init : goal.invariant-loop-init
invariant-loop-init l = Wrote l.initial.rows l.rows (map init_line (take l.init-index l.scratch))

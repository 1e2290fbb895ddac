use Rattle.std.proofs.Common.{take, map}
use Rattle.loop_writer.specs.Programs.{var_line}
use Rattle.loop_writer.specs.Writing.{Wrote}
use Rattle.loop_writer.proofs.program.write_vars.Given as goal

-- the lines so far were written
abbrev pub invariant-loop-var : goal.invariant-loop-var
invariant-loop-var l = Wrote l.initial.rows l.rows (map var_line (take l.var-index l.vars))

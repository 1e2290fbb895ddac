use Rattle.std.proofs.Common.{take, map}
use Rattle.loop_writer.specs.Programs.{print_line}
use Rattle.loop_writer.specs.Writing.{Wrote}
use Rattle.loop_writer.proofs.program.write_prints.Given as goal

-- the lines so far were written
abbrev pub invariant-loop-print : goal.invariant-loop-print
invariant-loop-print l = Wrote l.initial.rows l.rows (map print_line (take l.print-index l.prints))

use Rattle.std.proofs.Common.{◌<◌, length, sym, arith}
use Rattle.loop_writer.specs.Programs.{print_line}
use Rattle.loop_writer.proofs.Writes.{lines_step}
use Rattle.loop_writer.proofs.program.write_prints.Goals as goal

-- one more line was written
pub loop-print-preserved : goal.loop-print-preserved
loop-print-preserved c =
    let within : c.loop-print.print-index < length c.args.prints.now = omega arith in
    lines_step print_line c.args.prints.now c.loop-print.print-index c.print-item.result c.args.rows.now c.loop-print.rows c.one_print.new.rows within (sym c.print-item.is) c.loop-print.invariant
    c.in_ok-one_print.ensures

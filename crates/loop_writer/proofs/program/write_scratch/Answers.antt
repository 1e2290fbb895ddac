use Rattle.std.proofs.Common.{◌<◌, length, sym, arith}
use Rattle.loop_writer.specs.Programs.{init_line}
use Rattle.loop_writer.proofs.Writes.{lines_step}
use Rattle.loop_writer.proofs.program.write_scratch.Goals as goal

-- one more line was written
pub loop-init-preserved : goal.loop-init-preserved
loop-init-preserved c =
    let within : c.loop-init.init-index < length c.args.scratch.now = omega arith in
    lines_step init_line c.args.scratch.now c.loop-init.init-index c.init-item.result c.args.rows.now c.loop-init.rows c.one_init.new.rows within (sym c.init-item.is) c.loop-init.invariant
    c.in_ok-one_init.ensures

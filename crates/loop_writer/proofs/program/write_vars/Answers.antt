use Rattle.std.proofs.Common.{◌<◌, length, sym, arith}
use Rattle.loop_writer.specs.Programs.{var_line}
use Rattle.loop_writer.proofs.Writes.{lines_step}
use Rattle.loop_writer.proofs.program.write_vars.Goals as goal

-- one more line was written
pub loop-var-preserved : goal.loop-var-preserved
loop-var-preserved c =
    let within : c.loop-var.var-index < length c.args.vars.now = omega arith in
    lines_step var_line c.args.vars.now c.loop-var.var-index c.var-item.result c.args.rows.now c.loop-var.rows c.one_var.new.rows within (sym c.var-item.is) c.loop-var.invariant
    c.in_ok-one_var.ensures

use Rattle.std.proofs.Common.{◌<◌, length, sym, arith}
use Rattle.loop_writer.proofs.Lists.{inner_step}
use Rattle.loop_writer.proofs.heads.write_inners.Goals as goal

-- one more head was written
pub loop-head-preserved : goal.loop-head-preserved
loop-head-preserved c =
    let within : c.loop-head.head-index < length c.args.heads.now = omega arith in
    inner_step c.args.heads.now c.loop-head.head-index c.head-item.result c.args.out.now.items c.loop-head.out.items c.write_inner.new.out.items within (sym c.head-item.is) c.loop-head.invariant
    c.in_ok-write_inner.ensures

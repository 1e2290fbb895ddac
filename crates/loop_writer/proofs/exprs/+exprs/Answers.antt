use Rattle.std.proofs.Common.{◌<◌, length, sym, arith}
use Rattle.loop_writer.proofs.Lists.{parts_step}
use Rattle.loop_writer.proofs.exprs.+exprs.Goals as goal

-- the part at i was written, behind its comma
pub write_parts-loop-i-preserved : goal.write_parts-loop-i-preserved
write_parts-loop-i-preserved t c =
    let within : c.loop-i.i < length c.args.parts.now = omega arith in
    parts_step c.args.parts.now c.loop-i.i c.index-parts-i.result c.args.out.now.items c.loop-i.out.items c.write_comma.new.out.items c.write_expr.new.out.items within (sym c.index-parts-i.is)
    c.loop-i.invariant c.in_ok-write_comma.ensures c.in_ok-write_expr.ensures

use Rattle.std.proofs.Common.{◌≡◌, ◌||◌, ◌<◌, Bool, true, false, length, nat_lt, sym, arith}
use Rattle.loop_layout.specs.Canonical.{axis_marks}
use Rattle.loop_writer.proofs.Lists.{listed_step}
use Rattle.loop_writer.proofs.heads.+axes.Goals as goal
use Rattle.loop_writer.proofs.heads.+axes.Goals.{write_axes-then-apart, write_axes-else-apart}

left_there : (a b v : Bool) → a ≡ true → v ≡ a → v ≡ (a || b)
left_there true b v h e = e
left_there false b v h e = absurd (cc)

right_there : (a b v : Bool) → a ≡ false → v ≡ b → v ≡ (a || b)
right_there true b v h e = absurd (cc)
right_there false b v h e = e

-- the axis at i was written, behind its comma
pub write_axes-loop-i-preserved : goal.write_axes-loop-i-preserved
write_axes-loop-i-preserved t c =
    let i = c.loop-i.i in
    let within : i < length c.args.axes.now = omega arith in
    let apart : c.if-apart.write_axis ≡ (c.args.apart || nat_lt 0 i) = elim c.if-apart.branch [
      | write_axes-then-apart w ↦ left_there c.args.apart (nat_lt 0 i) c.if-apart.write_axis w.if-apart.true w.write_axis-is
      | write_axes-else-apart w ↦ right_there c.args.apart (nat_lt 0 i) c.if-apart.write_axis w.if-apart.false w.write_axis-is
    ] in
    listed_step axis_marks c.args.axes.now i c.index-axes-i.result c.args.apart c.if-apart.write_axis c.args.out.now.items c.loop-i.out.items c.write_comma.new.out.items c.write_axis.new.out.items within
    (sym c.index-axes-i.is) apart c.loop-i.invariant c.in_ok-write_comma.ensures c.in_ok-write_axis.ensures

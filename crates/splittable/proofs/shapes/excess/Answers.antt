use Rattle.std.proofs.Common.{sym, arith}
use Rattle.splittable.proofs.Excess.{so_far_more, so_far_over, no_excess, any_zero, no_zero}
use Rattle.splittable.proofs.shapes.excess.Goals as goal

pub returns-then-contains : goal.returns-then-contains
returns-then-contains c = no_excess c.args.lens.now (omega (arith, any_zero c.args.lens.now (sym c.if-contains.ensures.value)))

pub loop-len-preserved : goal.loop-len-preserved
loop-len-preserved c =
    rw c.from-items.ensures
    (so_far_more c.args.lens.now c.loop-len.len-index c.loop-len.items c.loop-len.invariant (omega arith) (rw c.from-items.ensures at c.if-items-gt-MOST_ITEMS.false))

pub returns-then-items-gt-MOST_ITEMS : goal.returns-then-items-gt-MOST_ITEMS
returns-then-items-gt-MOST_ITEMS c =
    rw c.from-items.ensures
    (so_far_over c.args.lens.now c.loop-len.len-index c.loop-len.items c.loop-len.invariant (omega arith) (rw c.from-items.ensures at c.if-items-gt-MOST_ITEMS.true)
    (no_zero c.args.lens.now (sym c.if-contains.ensures.value)))

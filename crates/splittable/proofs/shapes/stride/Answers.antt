use Rattle.std.proofs.Common.{arith}
use Rattle.splittable.proofs.Strides.{cuts_of_four, products_of_four}
use Rattle.splittable.proofs.shapes.stride.Goals as goal

pub overflow_mul-a-else-len-a-2-2 : goal.overflow_mul-a-else-len-a-2-2
overflow_mul-a-else-len-a-2-2 c =
    let products = products_of_four c.args.lens.now c.told-lens c.requires.some in grind (arith, products.third_most, c.requires.few)

pub returns-then-len-a-3-clause-cut : goal.returns-then-len-a-3-clause-cut
returns-then-len-a-3-clause-cut c =
    λ before is_box. (cuts_of_four c.args.lens.now before c.args.len c.told-lens c.requires.within is_box).on_third c.if-len-a-2.false c.if-len-a.false c.if-len-a-3.true

pub returns-else-len-a-3-clause-some : goal.returns-else-len-a-3-clause-some
returns-else-len-a-3-clause-some c = (products_of_four c.args.lens.now c.told-lens c.requires.some).third

pub returns-else-len-a-3-clause-cut : goal.returns-else-len-a-3-clause-cut
returns-else-len-a-3-clause-cut c =
    λ before is_box. (cuts_of_four c.args.lens.now before c.args.len c.told-lens c.requires.within is_box).on_fourth c.if-len-a-3.false c.if-len-a-2.false c.if-len-a.false

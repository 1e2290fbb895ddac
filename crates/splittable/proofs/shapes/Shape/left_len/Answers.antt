use Rattle.std.proofs.Common.{◌∙◌, arith}
use Rattle.splittable.proofs.Axes.{item_count-four, box_of_four, cut-four}
use Rattle.splittable.proofs.shapes.Shape.left_len.Goals as goal

pub left_len-requires-clause-some : goal.left_len-requires-clause-some
left_len-requires-clause-some c = omega (arith, item_count-four c.self.inside.lens c.args.self.now c.self.inside.axes c.self.invariant c.self.view_is, c.requires.some)

pub left_len-requires-clause-few : goal.left_len-requires-clause-few
left_len-requires-clause-few c = omega (arith, item_count-four c.self.inside.lens c.args.self.now c.self.inside.axes c.self.invariant c.self.view_is, rw c.self.view_is at c.self.invariant.few)

pub left_len-requires-clause-within : goal.left_len-requires-clause-within
left_len-requires-clause-within c = omega (arith, item_count-four c.self.inside.lens c.args.self.now c.self.inside.axes c.self.invariant c.self.view_is, c.requires.within)

pub left_len-requires-clause-is_box : goal.left_len-requires-clause-is_box
left_len-requires-clause-is_box c =
    (c.requires.is_box.0, box_of_four c.self.inside.lens c.args.self.now c.self.inside.axes c.requires.is_box.0 c.args.len c.self.invariant c.self.view_is c.requires.is_box.1)

pub returns : goal.returns
returns c =
    c.left_len.ensures ∙ cut-four c.self.inside.lens c.args.self.now c.self.inside.axes c.requires.is_box.0 c.args.len c.self.invariant c.self.view_is c.requires.is_box.1

use Rattle.std.proofs.Common.{◌∙◌, arith}
use Rattle.splittable.proofs.Axes.{item_count-four, places_after-four}
use Rattle.splittable.proofs.shapes.Shape.places_after.Goals as goal

pub places_after-requires : goal.places_after-requires
places_after-requires c = omega (arith, item_count-four c.self.inside.lens c.args.self.now c.self.inside.axes c.self.invariant c.self.view_is, c.requires)

pub returns : goal.returns
returns c = c.places_after.ensures ∙ places_after-four c.self.inside.lens c.args.self.now c.self.inside.axes c.args.before c.self.invariant c.self.view_is

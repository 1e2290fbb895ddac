use Rattle.std.proofs.Common.{◌≡◌, ◌≤◌, ◌∙◌, arith}
use Rattle.number_ranges.specs.Ranges.{most_items}
use Rattle.splittable.specs.Places.{item_count}
use Rattle.splittable.proofs.Products.{wrapped_four}
use Rattle.splittable.proofs.Axes.{item_count-four}
use Rattle.splittable.proofs.shapes.Shape.count.Goals as goal

pub returns-clause-value : goal.returns-clause-value
returns-clause-value c =
    let same : item_count c.self.inside.lens ≡ item_count c.args.self.now = item_count-four c.self.inside.lens c.args.self.now c.self.inside.axes c.self.invariant c.self.view_is in
    let few : item_count c.args.self.now ≤ most_items = rw (← c.self.view_is) c.self.invariant.few in
    wrapped_four c.self.inside.lens c.self.invariant.four (omega (arith, same, few)) ∙ same

pub returns-clause-few : goal.returns-clause-few
returns-clause-few c =
    let same : item_count c.self.inside.lens ≡ item_count c.args.self.now = item_count-four c.self.inside.lens c.args.self.now c.self.inside.axes c.self.invariant c.self.view_is in
    let few : item_count c.args.self.now ≤ most_items = rw (← c.self.view_is) c.self.invariant.few in
    let all = wrapped_four c.self.inside.lens c.self.invariant.four (omega (arith, same, few)) in
    omega (arith, all, same, few)

use Rattle.std.proofs.Common.{sym}
use Rattle.loop_items.proofs.PlacesLemmas.{open_axis, open_product}
use Rattle.loop_items.proofs.heads.HeadItems.item_on.Goals as goal

pub returns-then-self : goal.returns-then-self
returns-then-self c =
    open_product c.self.inside.shape c.self.inside.product c.self.inside.axes.items c.args.self.now c.self.invariant c.self.view_is
    c.as_slice.result.now c.args.places.now c.in_ok-row_on.field-0 c.if-self.true c.as_slice.ensures.value c.in_ok-row_on.ensures

pub returns : goal.returns
returns c =
    open_axis c.self.inside.shape c.self.inside.product c.self.inside.axes.items c.args.self.now c.self.invariant c.self.view_is
    c.index.result.now c.args.places.now c.item.result c.if-self.false (sym c.index.ensures) c.item.ensures

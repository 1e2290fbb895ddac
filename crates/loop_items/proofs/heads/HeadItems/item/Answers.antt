use Rattle.std.proofs.Common.{◌≡◌, ap, arith}
use Rattle.std.specs.Prelude.{is_some}
use Rattle.splittable.specs.Places.{item_count}
use Rattle.splittable.specs.Parts.{Stretch}
use Rattle.loop_items.proofs.Counted.{head_counted}
use Rattle.loop_items.proofs.heads.HeadItems.item.Goals as goal

pub place-requires-clause-high : goal.place-requires-clause-high
place-requires-clause-high c =
    let counted = head_counted c.self.inside.shape c.self.inside.product c.self.inside.axes.items c.args.self.now c.self.invariant c.self.view_is in
    omega (arith, counted, c.requires.to, ap (λ (p : Stretch). p.first) c.in-Some.ensures.whole, ap (λ (p : Stretch). p.len) c.in-Some.ensures.whole)

pub unreachable-requires : goal.unreachable-requires
unreachable-requires c =
    let counted = head_counted c.self.inside.shape c.self.inside.product c.self.inside.axes.items c.args.self.now c.self.invariant c.self.view_is in
    let none : item_count c.self.inside.shape ≡ 0 = c.whole.ensures.empty.0 (ap is_some c.in-None.is) in
    omega (arith, counted, none, c.requires.from, c.requires.to)

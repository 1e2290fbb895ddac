use Rattle.std.proofs.Common.{ap, sym, ◌∙◌}
use Rattle.splittable.specs.Places.{item_count}
use Rattle.loop_items.specs.Heads.{Head}
use Rattle.loop_items.proofs.Counted.{head_counted}
use Rattle.loop_items.proofs.heads.HeadItems.walk.Goals as goal

pub along-requires-clause-counted : goal.along-requires-clause-counted
along-requires-clause-counted c =
    ap (λ (h : Head). item_count h.lens) (sym c.self.view_is)
    ∙ head_counted c.self.inside.shape c.self.inside.product c.self.inside.axes.items c.args.self.now c.self.invariant c.self.view_is

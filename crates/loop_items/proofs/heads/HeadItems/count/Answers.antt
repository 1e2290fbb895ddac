use Rattle.std.proofs.Common.{◌∙◌}
use Rattle.loop_items.proofs.Counted.{head_counted}
use Rattle.loop_items.proofs.heads.HeadItems.count.Goals as goal

pub returns-clause-items : goal.returns-clause-items
returns-clause-items c =
    c.count.ensures.value ∙ head_counted c.self.inside.shape c.self.inside.product c.self.inside.axes.items c.args.self.now c.self.invariant c.self.view_is

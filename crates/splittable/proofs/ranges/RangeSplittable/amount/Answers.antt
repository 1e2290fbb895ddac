use Rattle.std.proofs.Common.{length, sym, ap, ◌∙◌}
use Rattle.number_ranges.proofs.Items.{length-items_from}
use Rattle.splittable.proofs.ranges.RangeSplittable.amount.Goals as goal

pub returns-clause-items : goal.returns-clause-items
returns-clause-items c = sym (ap length (sym c.self.view_is) ∙ length-items_from c.self.inside.first c.self.inside.step c.self.inside.count)

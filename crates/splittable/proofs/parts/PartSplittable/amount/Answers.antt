use Rattle.std.proofs.Common.{◌∙◌, sym, ap}
use Rattle.splittable.specs.Parts.{Stretch}
use Rattle.splittable.proofs.PartHalves.{length-numbers_from}
use Rattle.splittable.proofs.parts.PartSplittable.amount.Goals as goal

pub returns-clause-items : goal.returns-clause-items
returns-clause-items c = ap (λ (s : Stretch). s.len) c.self.view_is ∙ sym (length-numbers_from c.args.self.now.first c.args.self.now.len)

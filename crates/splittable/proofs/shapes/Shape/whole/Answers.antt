use Rattle.std.proofs.Common.{refl, arith}
use Rattle.splittable.proofs.Products.{zero_of_product, product_of_zero}
use Rattle.splittable.specs.Nodes.{the_whole}
use Rattle.splittable.proofs.shapes.Shape.whole.Goals as goal

pub returns-then-count-eq0-clause-none : goal.returns-then-count-eq0-clause-none
returns-then-count-eq0-clause-none c = (λ _. zero_of_product c.args.self.now (omega (arith, c.count-count.ensures.value, c.if-count-eq0.true)), λ _. refl)

pub returns-clause-none : goal.returns-clause-none
returns-clause-none c = (λ e. absurd (cc), λ h. absurd (omega (arith, product_of_zero c.args.self.now h.0 h.1 h.2, c.count-count.ensures.value, c.if-count-eq0.false)))

pub returns-clause-node : goal.returns-clause-node
returns-clause-node c = λ least. rw c.all_of.ensures (∣ (0, the_whole (omega (arith, c.count-count.ensures.value, c.if-count-eq0.false))) ∣₁)

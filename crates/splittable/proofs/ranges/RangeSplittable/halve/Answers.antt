use Rattle.std.proofs.Common.{◌≡◌, ◌+◌, ◌-◌, ◌/◌, length, sym, ap, ◌∙◌, arith, rules}
use Rattle.std.specs.Prelude.{FitsSigned}
use Rattle.std.specs.Int.{w64}
use Rattle.std.proofs.lemmas.Int.{to_z-of_z}
use Rattle.number_ranges.specs.Ranges.{items_from}
use Rattle.number_ranges.proofs.Items.{length-items_from, items_from-add}
use Rattle.number_ranges.proofs.Steps.{steps_add}
use Rattle.splittable.proofs.ranges.RangeSplittable.halve.Goals as goal

pub returns-then-self-le1-clause-none : goal.returns-then-self-le1-clause-none
returns-then-self-le1-clause-none c =
    let len : length c.args.self.now ≡ c.self.inside.count = ap length (sym c.self.view_is) ∙ length-items_from c.self.inside.first c.self.inside.step c.self.inside.count in
    grind (arith, len, c.if-self-le1.true)

pub invariant_of-result-2 : goal.invariant_of-result-2
invariant_of-result-2 c =
    let first : FitsSigned w64 c.self.inside.first = search rules in
    let step : FitsSigned w64 c.self.inside.step = search rules in
    let fits : FitsSigned w64 c.range_item.result = search rules in
    let mid = c.self.inside.count / 2 in (
      omega (arith, c.self.invariant.0),
      λ k h.
          rw (to_z-of_z w64 c.range_item.result fits, c.range_item.ensures, to_z-of_z w64 c.self.inside.first first, to_z-of_z w64 c.self.inside.step step, steps_add c.self.inside.first c.self.inside.step (c.self.inside.count / 2) k)
          (c.self.invariant.1 (c.self.inside.count / 2 + k) (omega arith)),
    )

pub returns-clause-none : goal.returns-clause-none
returns-clause-none c =
    let len : length c.args.self.now ≡ c.self.inside.count = ap length (sym c.self.view_is) ∙ length-items_from c.self.inside.first c.self.inside.step c.self.inside.count in
    grind (arith, len, c.if-self-le1.false)

pub returns-clause-left : goal.returns-clause-left
returns-clause-left c = rw length-items_from (omega arith)

pub returns-clause-right : goal.returns-clause-right
returns-clause-right c = rw length-items_from (omega arith)

pub returns-clause-whole : goal.returns-clause-whole
returns-clause-whole c =
    let first : FitsSigned w64 c.self.inside.first = search rules in
    let step : FitsSigned w64 c.self.inside.step = search rules in
    let fits : FitsSigned w64 c.range_item.result = search rules in
    let all : c.self.inside.count / 2 + (c.self.inside.count - c.self.inside.count / 2) ≡ c.self.inside.count = omega arith in
    rw (to_z-of_z w64 c.range_item.result fits, c.range_item.ensures, to_z-of_z w64 c.self.inside.first first, to_z-of_z w64 c.self.inside.step step)
    (sym (items_from-add c.self.inside.first c.self.inside.step (c.self.inside.count / 2) (c.self.inside.count - c.self.inside.count / 2))
    ∙ ap (items_from c.self.inside.first c.self.inside.step) all ∙ c.self.view_is)

pub returns-clause-cut : goal.returns-clause-cut
returns-clause-cut c =
    let len : length c.args.self.now ≡ c.self.inside.count = ap length (sym c.self.view_is) ∙ length-items_from c.self.inside.first c.self.inside.step c.self.inside.count in
    rw (length-items_from, len) (omega arith)

use Rattle.std.proofs.Common.{◌≡◌, ◌-◌, ◌<◌, length, sym, ap, ◌∙◌, arith, rules}
use Rattle.std.specs.Prelude.{FitsSigned}
use Rattle.std.specs.Int.{w64}
use Rattle.std.proofs.lemmas.Int.{to_z-of_z}
use Rattle.number_ranges.proofs.Items.{length-items_from, slice_get-items_from}
use Rattle.splittable.proofs.ranges.Range.at.Goals as goal

pub range_item-requires : goal.range_item-requires
range_item-requires c =
    let len : length c.args.self.now ≡ c.self.inside.count = ap length (sym c.self.view_is) ∙ length-items_from c.self.inside.first c.self.inside.step c.self.inside.count in
    let first : FitsSigned w64 c.self.inside.first = search rules in
    let step : FitsSigned w64 c.self.inside.step = search rules in
    rw (to_z-of_z w64 c.self.inside.first first, to_z-of_z w64 c.self.inside.step step)
    (c.self.invariant.1 (c.args.k - 1) (omega (arith, len, c.requires.high, c.requires.low)))

pub returns : goal.returns
returns c =
    let len : length c.args.self.now ≡ c.self.inside.count = ap length (sym c.self.view_is) ∙ length-items_from c.self.inside.first c.self.inside.step c.self.inside.count in
    let first : FitsSigned w64 c.self.inside.first = search rules in
    let step : FitsSigned w64 c.self.inside.step = search rules in
    let fits : FitsSigned w64 c.range_item.result = search rules in
    let before : c.args.k - 1 < c.self.inside.count = omega (arith, len, c.requires.high, c.requires.low) in
    rw (to_z-of_z w64 c.range_item.result fits, c.range_item.ensures, to_z-of_z w64 c.self.inside.first first, to_z-of_z w64 c.self.inside.step step, ← c.self.view_is)
    (slice_get-items_from c.self.inside.first c.self.inside.step c.self.inside.count (c.args.k - 1) before)

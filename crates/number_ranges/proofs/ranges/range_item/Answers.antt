use Rattle.std.proofs.Common.{◌≡◌, ◌∙◌, ℕ, ◌<◌, ◌^◌, arith, rules, to_z, of_z}
use Rattle.std.specs.Prelude.{ℤ, pos, ◌+ℤ◌, ◌*ℤ◌, FitsSigned}
use Rattle.std.specs.Int.{w64, w128}
use Rattle.std.proofs.lemmas.Int.{ints, to_z-of_z}
use Rattle.number_ranges.specs.Ranges.{range_item}
use Rattle.number_ranges.proofs.ranges.range_item.Goals as goal

-- a product and a sum that fit in 128 bits on the way to a number that fits 64
in_wide : (f s : ℤ) (n : ℕ) (a b c : ℤ) → a ≡ f → b ≡ pos n → c ≡ s → FitsSigned w64 f → FitsSigned w64 s → n < 2 ^ 64 → FitsSigned w64 (range_item f s n) →
    to_z w64 (of_z w64 (to_z w128 (of_z w128 (to_z w128 (of_z w128 a) +ℤ to_z w128 (of_z w128 (to_z w128 (of_z w128 b) *ℤ to_z w128 (of_z w128 c))))))) ≡ range_item f s n
in_wide f s n a b c ea eb ec ff fs few fits =
    let wide_f : FitsSigned w128 f = omega (arith, ints) in
    let wide_s : FitsSigned w128 s = omega (arith, ints) in
    let wide_n : FitsSigned w128 (pos n) = omega (arith, ints) in
    let wide_product : FitsSigned w128 (pos n *ℤ s) = omega (arith, ints) in
    let wide_sum : FitsSigned w128 (f +ℤ pos n *ℤ s) = omega (arith, ints) in
    rw (ea, eb, ec, to_z-of_z w128 f wide_f, to_z-of_z w128 s wide_s, to_z-of_z w128 (pos n) wide_n, to_z-of_z w128 (pos n *ℤ s) wide_product, to_z-of_z w128 (f +ℤ pos n *ℤ s) wide_sum)
    (to_z-of_z w64 (f +ℤ pos n *ℤ s) fits)

pub returns : goal.returns
returns c =
    let first = c.from.ensures ∙ to_z-of_z w64 c.args.first c.ranges.first in
    let step = c.from-3.ensures ∙ to_z-of_z w64 c.args.step c.ranges.step in
    in_wide c.args.first c.args.step c.args.steps c.from.result c.from-2.result c.from-3.result first c.from-2.ensures step c.ranges.first c.ranges.step (search rules) c.requires

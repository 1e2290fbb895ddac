use Rattle.std.proofs.Common.{◌≡◌, arith, rules}
use Rattle.std.specs.Int.{w64}
use Rattle.std.proofs.lemmas.Int.{to_z-of_z}
use Rattle.number_ranges.specs.Ranges.{range_count}
use Rattle.number_ranges.proofs.RangeFits.{item_fits}
use Rattle.splittable.proofs.ranges.Range.new.Goals as goal

pub invariant_of-result : goal.invariant_of-result
invariant_of-result c =
    let first = to_z-of_z w64 c.args.first c.ranges.first in
    let step = to_z-of_z w64 c.args.step c.ranges.step in
    let last = to_z-of_z w64 c.args.last c.ranges.last in
    let count : c.range_count-count.result ≡ range_count c.args.first c.args.step c.args.last = rw (first, step, last) at c.range_count-count.ensures.value in (
      omega arith,
      λ k h.
          rw (first, step)
          (item_fits c.args.first c.args.step c.args.last k c.ranges.first c.ranges.last (search rules) (omega (arith, h, count))),
    )

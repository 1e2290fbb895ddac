use Rattle.std.proofs.Common.{◌≡◌, ◌≢◌, pos, rules}
use Rattle.std.specs.Int.{w64}
use Rattle.std.proofs.lemmas.Int.{to_z-of_z}
use Rattle.number_ranges.specs.Ranges.{range_count}
use Rattle.number_ranges.proofs.RangeFits.{item_fits}
use Rattle.loop_meaning.proofs.items.numbers.Goals as goal

-- each item lies between the first and the last
pub numbers_from-requires : goal.numbers_from-requires
numbers_from-requires c =
    let some : c.args.step ≢ pos 0 = search rules in
    let count : c.range_count-count.result ≡ range_count c.args.first c.args.step c.args.last = search (rules, to_z-of_z) in
    rw (to_z-of_z w64 c.args.first c.ranges.first, to_z-of_z w64 c.args.step c.ranges.step)
    (λ k h. item_fits c.args.first c.args.step c.args.last k c.ranges.first c.ranges.last some (rw count at h))

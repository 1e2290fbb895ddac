use Rattle.std.proofs.Common.{◌≡◌, ◌≢◌, pos, rules}
use Rattle.std.proofs.lemmas.Int.{to_z-of_z}
use Rattle.number_ranges.specs.Ranges.{range_count}
use Rattle.loop_values.specs.InnerItems.{limited}
use Rattle.loop_values.proofs.RangeLemmas.{range_fits}
use Rattle.loop_values.proofs.ranges.ranged.Goals as goal

pub returns-clause-fit : goal.returns-clause-fit
returns-clause-fit c =
    let n = c.range_count.result in
    let some : c.args.step ≢ pos 0 = search rules in
    let count : n ≡ range_count c.args.first c.args.step c.args.last = search (rules, to_z-of_z) in
    let is : c.limited.result ≡ limited c.args.width n (record { first = c.args.first; step = c.args.step; count = n }) = search (rules, to_z-of_z) in
    range_fits c.args.width n c.args.first c.args.step c.args.last c.limited.result c.ranges.first c.ranges.last some count is

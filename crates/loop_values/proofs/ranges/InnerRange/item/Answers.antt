use Rattle.std.proofs.Common.{◌≡◌, ◌-◌, ◌<◌, Some, rules, arith}
use Rattle.std.specs.Prelude.{slice_get}
use Rattle.std.proofs.lemmas.Int.{to_z-of_z}
use Rattle.number_ranges.specs.Ranges.{range_item}
use Rattle.number_ranges.proofs.Items.{slice_get-items_from}
use Rattle.loop_values.specs.InnerItems.{items_of}
use Rattle.loop_values.proofs.ranges.InnerRange.item.Goals as goal

pub returns-clause-listed : goal.returns-clause-listed
returns-clause-listed c =
    let r = c.args.self.now in
    let lt : c.args.k - 1 < r.count = omega arith in
    let e : slice_get (items_of r) (c.args.k - 1) ≡ Some (range_item r.first r.step (c.args.k - 1)) = slice_get-items_from r.first r.step r.count (c.args.k - 1) lt in
    search (rules, to_z-of_z)

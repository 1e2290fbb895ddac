use Rattle.std.proofs.Common.{rules, ap, subst, sym, ◌∙◌}
use Rattle.fold_steal.specs.Crews.{crew_state}
use Rattle.fold_steal.specs.NewSeats.{AreDeques, crew_with}
use Rattle.fold_steal.specs.Joins.{rows_of}
use Rattle.fold_steal.proofs.AllSteps.{dealt_parts, cut_all, all_are}
use Rattle.fold_steal.proofs.crew.StealCrew.new.Goals as goal

pub make_deques-requires-clause-nodes : goal.make_deques-requires-clause-nodes
make_deques-requires-clause-nodes g c =
    (dealt_parts c.args.shape.now c.least_part-least.result c.args.workers c.as_slice.result.now c.in_ok-parts.parts.items c.as_slice.ensures.value c.in_ok-parts.ensures c.least_part-least.ensures.some c.requires.workers.0).nodes

pub seat_all-requires-clause-dealt : goal.seat_all-requires-clause-dealt
seat_all-requires-clause-dealt g c =
    dealt_parts c.args.shape.now c.least_part-least.result c.args.workers c.as_slice-2.result.now c.in_ok-parts.parts.items c.as_slice-2.ensures.value c.in_ok-parts.ensures c.least_part-least.ensures.some c.requires.workers.0

pub returns-clause-all : goal.returns-clause-all
returns-clause-all g c =
    let lens = c.args.shape.now in
    let least = c.least_part-least.result in
    let parts = c.as_slice-2.result.now in
    let same = c.as_slice.ensures.value ∙ sym c.as_slice-2.ensures.value in
    let deal = dealt_parts lens least c.args.workers parts c.in_ok-parts.parts.items c.as_slice-2.ensures.value c.in_ok-parts.ensures c.least_part-least.ensures.some c.requires.workers.0 in
    all_are (crew_with lens least c.in_ok-word.word) c.args.workers parts c.cut_stops.new.stops.items c.in_ok-owners.owners.items (rows_of c.in_ok-owners.rows) c.in_ok-seats.seats.items deal
    (cut_all c.in_ok-word.word c.args.workers c.in_ok-word.stop.weight c.new-stops.result.items c.cut_stops.new.stops.items c.new-stops.ensures.items c.in_ok-word.ensures.weight c.in_ok-cut_stops.ensures)
    (subst (λ ps. AreDeques lens least ps c.args.workers c.args.workers c.in_ok-owners.owners.items (rows_of c.in_ok-owners.rows)) same c.in_ok-owners.ensures)
    c.in_ok-seats.ensures.seats c.in_ok-seats.ensures.ends

use Rattle.std.proofs.Common.{rules, ap, ◌≡◌, ◌∷◌, ◌∙◌, ◌<◌, option_to_list, map, drop, length, sym}
use Rattle.stop_word.specs.Seats.{SeatState}
use Rattle.part_deque.specs.Ends.{OwnerEnd}
use Rattle.fold_steal.specs.Joins.{rows_of}
use Rattle.fold_steal.proofs.SeatedSteps.{AreSeatedUpTo, first_out, first_row_out, next_seat, seated_more, all_seated}
use Rattle.fold_steal.proofs.crew.StealCrew.seat_all.Goals as goal

pub seat_one-requires-clause-large : goal.seat_one-requires-clause-large
seat_one-requires-clause-large g c =
    let h = c.loop-number.invariant in
    let a = first_out c.loop-number.stops.items c.remove-stop.new.self.items c.remove-stop.result (search rules) c.remove-stop.ensures.value c.remove-stop.ensures.items in
    let b = first_out c.loop-number.owners.items c.remove-owner.new.self.items c.remove-owner.result (search rules) c.remove-owner.ensures.value c.remove-owner.ensures.items in
    let d = first_row_out c.loop-number.rows.items c.remove-thieves.new.self.items c.remove-thieves.result (search rules) c.remove-thieves.ensures.value c.remove-thieves.ensures.items in
    (next_seat c.args.self.now c.args.parts.now c.args.workers c.loop-number.number c.args.stops.items c.loop-number.stops.items c.remove-stop.new.self.items c.args.owners.items c.loop-number.owners.items c.remove-owner.new.self.items (rows_of c.args.rows)
    (rows_of c.loop-number.rows) (rows_of c.remove-thieves.new.self) c.loop-number.seats.items (option_to_list c.part_at-dealt.result) c.remove-stop.result c.remove-owner.result c.remove-thieves.result.items c.requires.large c.requires.dealt (search rules) h
    c.part_at-dealt.ensures a b d).large

pub seat_one-requires-clause-alone : goal.seat_one-requires-clause-alone
seat_one-requires-clause-alone g c =
    let h = c.loop-number.invariant in
    let a = first_out c.loop-number.stops.items c.remove-stop.new.self.items c.remove-stop.result (search rules) c.remove-stop.ensures.value c.remove-stop.ensures.items in
    let b = first_out c.loop-number.owners.items c.remove-owner.new.self.items c.remove-owner.result (search rules) c.remove-owner.ensures.value c.remove-owner.ensures.items in
    let d = first_row_out c.loop-number.rows.items c.remove-thieves.new.self.items c.remove-thieves.result (search rules) c.remove-thieves.ensures.value c.remove-thieves.ensures.items in
    (next_seat c.args.self.now c.args.parts.now c.args.workers c.loop-number.number c.args.stops.items c.loop-number.stops.items c.remove-stop.new.self.items c.args.owners.items c.loop-number.owners.items c.remove-owner.new.self.items (rows_of c.args.rows)
    (rows_of c.loop-number.rows) (rows_of c.remove-thieves.new.self) c.loop-number.seats.items (option_to_list c.part_at-dealt.result) c.remove-stop.result c.remove-owner.result c.remove-thieves.result.items c.requires.large c.requires.dealt (search rules) h
    c.part_at-dealt.ensures a b d).alone

pub loop-number-preserved : goal.loop-number-preserved
loop-number-preserved g c =
    let h = c.loop-number.invariant in
    let a = first_out c.loop-number.stops.items c.remove-stop.new.self.items c.remove-stop.result (search rules) c.remove-stop.ensures.value c.remove-stop.ensures.items in
    let b = first_out c.loop-number.owners.items c.remove-owner.new.self.items c.remove-owner.result (search rules) c.remove-owner.ensures.value c.remove-owner.ensures.items in
    let d = first_row_out c.loop-number.rows.items c.remove-thieves.new.self.items c.remove-thieves.result (search rules) c.remove-thieves.ensures.value c.remove-thieves.ensures.items in
    let next =
    next_seat c.args.self.now c.args.parts.now c.args.workers c.loop-number.number c.args.stops.items c.loop-number.stops.items c.remove-stop.new.self.items c.args.owners.items c.loop-number.owners.items c.remove-owner.new.self.items (rows_of c.args.rows)
    (rows_of c.loop-number.rows) (rows_of c.remove-thieves.new.self) c.loop-number.seats.items (option_to_list c.part_at-dealt.result) c.remove-stop.result c.remove-owner.result c.remove-thieves.result.items c.requires.large c.requires.dealt (search rules) h
    c.part_at-dealt.ensures a b d in
    seated_more c.args.self.now c.args.parts.now c.args.workers c.loop-number.number c.args.stops.items c.loop-number.stops.items c.remove-stop.new.self.items c.args.owners.items c.loop-number.owners.items c.remove-owner.new.self.items (rows_of c.args.rows)
    (rows_of c.loop-number.rows) (rows_of c.remove-thieves.new.self) c.loop-number.seats.items (option_to_list c.part_at-dealt.result) c.remove-stop.result c.remove-owner.result c.remove-thieves.result.items c.push.new.self.items c.seat_one.result h
    c.part_at-dealt.ensures a b d next c.seat_one.ensures.seat c.seat_one.ensures.ends c.in_ok-push.ensures.items

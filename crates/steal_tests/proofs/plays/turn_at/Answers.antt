use Rattle.std.proofs.Common.{rules}
use Rattle.steal_tests.proofs.Turned.{turned_same}
use Rattle.steal_tests.proofs.plays.turn_at.Goals as goal

pub returns-in_err-turn-clause-same : goal.returns-in_err-turn-clause-same
returns-in_err-turn-clause-same g c =
    turned_same c.args.seats.now.items c.args.number c.index_mut-seat.result.now c.turn.new.seat (search rules) c.index_mut-seat.ensures.value c.turn.ensures.same

pub returns-clause-same : goal.returns-clause-same
returns-clause-same g c =
    turned_same c.args.seats.now.items c.args.number c.index_mut-seat.result.now c.turn.new.seat (search rules) c.index_mut-seat.ensures.value c.turn.ensures.same

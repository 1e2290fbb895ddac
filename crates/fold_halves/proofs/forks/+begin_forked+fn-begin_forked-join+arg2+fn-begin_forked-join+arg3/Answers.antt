use Rattle.std.proofs.Common.{◌≡◌, ◌∷◌, [], List, None, sym, ap, ◌∙◌, subst}
use Rattle.stop_word.specs.Seats.{SeatState}
use Rattle.fold_halves.specs.Logged.{AreLogged}
use Rattle.fold_halves.proofs.Steps.{logged_none, logged_some}
use Rattle.fold_halves.proofs.Forked.{ok_of, forked_one, forked_both}
use Rattle.fold_halves.proofs.forks.+begin_forked+fn-begin_forked-join+arg2+fn-begin_forked-join+arg3.Goals as goal

pub returns-then-seats-eq1-clause-logs : goal.returns-then-seats-eq1-clause-logs
returns-then-seats-eq1-clause-logs g t c =
    let job = c.args.job.now in
    subst (λ (s : SeatState). AreLogged (g.J.Job.stands job) (g.J.Job.lens job) c.args.least c.args.part s c.in_ok-one_log.field-0.items) (sym c.seat.view_is)
    (forked_one (g.J.Job.stands job) (g.J.Job.lens job) c.args.least c.args.part c.args.seat c.begin_node.new.seat c.new-log.result c.begin_node.new.log c.in_ok-one_log.field-0.items c.requires.fresh c.new-log.ensures
    (let e = c.in_ok-one_log.ensures in let v = c.log.view_is in cc) c.in_ok-begin_node.ensures.log)

pub returns-in_default-clause-logs : goal.returns-in_default-clause-logs
returns-in_default-clause-logs g t c =
    let job = c.args.job.now in
    subst (λ (s : SeatState). AreLogged (g.J.Job.stands job) (g.J.Job.lens job) c.args.least c.args.part s c.in_ok-one_log-2.field-0.items) (sym c.seat-2.view_is)
    (forked_one (g.J.Job.stands job) (g.J.Job.lens job) c.args.least c.args.part c.args.seat c.begin_or_halve.new.seat c.new-log.result c.begin_or_halve.new.log c.in_ok-one_log-2.field-0.items c.requires.fresh c.new-log.ensures
    (let e = c.in_ok-one_log-2.ensures in let v = c.log-2.view_is in cc)
    (logged_none (g.J.Job.stands job) (g.J.Job.lens job) c.args.least c.args.part c.args.seat c.begin_or_halve.new.seat c.new-log.result c.begin_or_halve.new.log c.in_ok-halves.halves c.in_default.is c.in_ok-halves.ensures.begun))

pub returns-clause-logs : goal.returns-clause-logs
returns-clause-logs g t c =
    let job = c.args.job.now in
    let one = ok_of _ _ _ c.in_ok-seat.was c.join-first.ensures.first in
    let two = ok_of _ _ _ c.in_ok-other.was c.join-first.ensures.second in
    forked_both (g.J.Job.stands job) (g.J.Job.lens job) c.args.least c.args.part c.in-Some.halves.0 c.in-Some.halves.1 c.args.seat c.begin_or_halve.new.seat c.in_ok-seat.seat c.in_ok-other.other c.join.new.seat
    c.new-log.result c.begin_or_halve.new.log c.in_ok-seat.logs.items c.in_ok-other.more.items c.append.new.self.items
    (logged_some (g.J.Job.stands job) (g.J.Job.lens job) c.args.least c.args.part c.in-Some.halves.0 c.in-Some.halves.1 c.args.seat c.begin_or_halve.new.seat c.new-log.result c.begin_or_halve.new.log c.in_ok-halves.halves c.in-Some.is c.in_ok-halves.ensures.begun)
    one.2 two.2 c.join.ensures.reported c.join.ensures.seen c.in_ok-append.ensures.items

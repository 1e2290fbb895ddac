use Rattle.piece_ledger.proofs.Together.{kept_one, kept_both, kept_next, order_next}
use Rattle.piece_ledger.proofs.laws.logs_of_joined_seats_are_kept.Goals as goal

pub returns-clause-one : goal.returns-clause-one
returns-clause-one g c job = kept_one (g.J.Job.stands job) (g.J.Job.lens job)

pub returns-clause-both : goal.returns-clause-both
returns-clause-both g c job = kept_both (g.J.Job.stands job) (g.J.Job.lens job)

pub returns-clause-next : goal.returns-clause-next
returns-clause-next g c job = kept_next (g.J.Job.stands job) (g.J.Job.lens job)

pub returns-clause-order : goal.returns-clause-order
returns-clause-order g c job = order_next (g.J.Job.stands job) (g.J.Job.lens job)

use Rattle.fold_seq.proofs.Order.{stop_longer}
use Rattle.fold_seq.proofs.laws.a_stop_stands_for_longer_stretches.Goals as goal

pub returns : goal.returns
returns g c = λ job. stop_longer (g.J.Job.stands job) (g.met.J.Job.stop_stands job)

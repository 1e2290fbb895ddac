use Rattle.fold_seq.proofs.Order.{both}
use Rattle.fold_seq.proofs.laws.combining_stands_for_both.Goals as goal

pub returns : goal.returns
returns g c = λ job. both (g.J.Job.stands job) (g.J.Job.merges job) (g.met.J.Job.merge_stands job) (g.met.J.Job.stop_stands job)

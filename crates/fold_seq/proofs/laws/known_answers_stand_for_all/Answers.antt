use Rattle.fold_seq.proofs.Known.{known_stand, known_end}
use Rattle.fold_seq.proofs.laws.known_answers_stand_for_all.Goals as goal

pub returns-clause-stands : goal.returns-clause-stands
returns-clause-stands g c = λ job. known_stand (g.J.Job.stands job) (g.J.Job.merges job) (g.met.J.Job.merge_stands job) (g.met.J.Job.stop_stands job)

pub returns-clause-end : goal.returns-clause-end
returns-clause-end g c = λ job. known_end (g.J.Job.merges job)

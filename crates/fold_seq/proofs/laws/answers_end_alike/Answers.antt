use Rattle.fold_seq.proofs.laws.answers_end_alike.Goals as goal

pub returns : goal.returns
returns g c = g.met.J.Job.ends_alike

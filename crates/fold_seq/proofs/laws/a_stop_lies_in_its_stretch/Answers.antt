use Rattle.fold_seq.proofs.laws.a_stop_lies_in_its_stretch.Goals as goal

pub returns : goal.returns
returns g c = g.met.J.Job.stop_lies

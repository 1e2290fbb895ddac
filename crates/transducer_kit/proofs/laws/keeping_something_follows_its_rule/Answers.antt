use Rattle.transducer_kit.specs.Passing.{one_kept}
use Rattle.transducer_kit.proofs.Lists.{fused, fused_or_failed, takes_fused}
use Rattle.transducer_kit.proofs.laws.keeping_something_follows_its_rule.Goals as goal

pub returns-clause-rule : goal.returns-clause-rule
returns-clause-rule g c = λ w stage. fused (g.R.Reducing.gives w.inner) (goal.F-post g w.make) one_kept stage

pub returns-clause-memory : goal.returns-clause-memory
returns-clause-memory g c = λ w stage. fused_or_failed (g.R.Reducing.gives w.inner) (goal.F-post g w.make) one_kept stage

pub returns-clause-takes : goal.returns-clause-takes
returns-clause-takes g c = λ w stage.
    takes_fused (g.R.Reducing.gives w.inner) (g.R.Reducing.takes w.inner) (goal.F-post g w.make) one_kept stage (goal.F-pre g w.make)

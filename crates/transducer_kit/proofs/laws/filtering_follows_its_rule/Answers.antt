use Rattle.transducer_kit.specs.Passing.{AtShown, MayShow, one_tested}
use Rattle.transducer_kit.proofs.Lists.{fused, fused_or_failed, takes_fused}
use Rattle.transducer_kit.proofs.laws.filtering_follows_its_rule.Goals as goal

pub returns-clause-rule : goal.returns-clause-rule
returns-clause-rule g c = λ w stage. fused (g.R.Reducing.gives w.inner) (AtShown (goal.P-post g w.test)) one_tested stage

pub returns-clause-memory : goal.returns-clause-memory
returns-clause-memory g c = λ w stage. fused_or_failed (g.R.Reducing.gives w.inner) (AtShown (goal.P-post g w.test)) one_tested stage

pub returns-clause-takes : goal.returns-clause-takes
returns-clause-takes g c = λ w stage.
    takes_fused (g.R.Reducing.gives w.inner) (g.R.Reducing.takes w.inner) (AtShown (goal.P-post g w.test)) one_tested stage (MayShow (goal.P-pre g w.test))

use Rattle.transducer_kit.specs.Passing.{AtShown, MayShow}
use Rattle.transducer_kit.proofs.Lists.{fused_elements, fused_elements_or_failed, takes_fused_elements}
use Rattle.transducer_kit.proofs.laws.catting_follows_its_rule.Goals as goal

pub returns-clause-rule : goal.returns-clause-rule
returns-clause-rule g c = λ w element. fused_elements (g.R.Reducing.gives w.inner) (λ x k. AtShown (λ shown. goal.F-post g w.make shown k) x) element

pub returns-clause-memory : goal.returns-clause-memory
returns-clause-memory g c = λ w element. fused_elements_or_failed (g.R.Reducing.gives w.inner) (λ x k. AtShown (λ shown. goal.F-post g w.make shown k) x) element

pub returns-clause-takes : goal.returns-clause-takes
returns-clause-takes g c = λ w element.
    takes_fused_elements (g.R.Reducing.gives w.inner) (g.R.Reducing.takes w.inner) (λ x k. MayShow (λ shown. goal.F-pre g w.make shown k) x)
    (λ x k. AtShown (λ shown. goal.F-post g w.make shown k) x) element

use Rattle.loop_meaning.proofs.FewLemmas.{inputs_few, runs_few, steps_at_most, steps_few}
use Rattle.loop_meaning.proofs.laws.few_are_emitted.Goals as goal

pub returns-clause-steps : goal.returns-clause-steps
returns-clause-steps c = steps_few

pub returns-clause-most : goal.returns-clause-most
returns-clause-most c = steps_at_most

pub returns-clause-runs : goal.returns-clause-runs
returns-clause-runs c = runs_few

pub returns-clause-inputs : goal.returns-clause-inputs
returns-clause-inputs c = inputs_few

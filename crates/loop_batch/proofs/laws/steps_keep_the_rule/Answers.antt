use Rattle.loop_batch.proofs.Reached.{step_keeps, always}
use Rattle.loop_batch.proofs.laws.steps_keep_the_rule.Goals as goal

pub returns-clause-step : goal.returns-clause-step
returns-clause-step c = step_keeps

pub returns-clause-always : goal.returns-clause-always
returns-clause-always c = always

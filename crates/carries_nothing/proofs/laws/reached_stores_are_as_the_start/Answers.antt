use Rattle.carries_nothing.proofs.Cuts.{reached_alike, reached_runs, reached_steps, runs_reach_stores}
use Rattle.carries_nothing.proofs.laws.reached_stores_are_as_the_start.Goals as goal

pub returns-clause-reached : goal.returns-clause-reached
returns-clause-reached c = runs_reach_stores

pub returns-clause-alike : goal.returns-clause-alike
returns-clause-alike c = reached_alike

pub returns-clause-runs : goal.returns-clause-runs
returns-clause-runs c = reached_runs

pub returns-clause-steps : goal.returns-clause-steps
returns-clause-steps c = reached_steps

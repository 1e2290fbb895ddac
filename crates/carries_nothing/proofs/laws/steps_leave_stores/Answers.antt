use Rattle.carries_nothing.proofs.KeptStores.{start_is_store, step_leaves_store}
use Rattle.carries_nothing.proofs.laws.steps_leave_stores.Goals as goal

pub returns-clause-start : goal.returns-clause-start
returns-clause-start c = start_is_store

pub returns-clause-step : goal.returns-clause-step
returns-clause-step c = step_leaves_store

use Rattle.stop_word.proofs.Least.{is_one, at_most_each}
use Rattle.stop_word.proofs.laws.least_is_the_least.Goals as goal

pub returns-clause-one : goal.returns-clause-one
returns-clause-one c = is_one

pub returns-clause-least : goal.returns-clause-least
returns-clause-least c = at_most_each

use Rattle.carries_nothing.proofs.SpelledNames.{others_are_unseen, spelled_names_last}
use Rattle.carries_nothing.proofs.laws.spelled_names_last.Goals as goal

pub returns-clause-last : goal.returns-clause-last
returns-clause-last c = spelled_names_last

pub returns-clause-others : goal.returns-clause-others
returns-clause-others c = others_are_unseen

use Rattle.carries_nothing.proofs.KeptNames.{inner_items_keep}
use Rattle.carries_nothing.proofs.LegalLemmas.{lasting_untouched}
use Rattle.carries_nothing.proofs.SameSteps.{bodies_are_same, ranges_are_same}
use Rattle.carries_nothing.proofs.laws.bodies_see_nothing_carried.Goals as goal

pub returns-clause-bodies : goal.returns-clause-bodies
returns-clause-bodies c = bodies_are_same

pub returns-clause-ranges : goal.returns-clause-ranges
returns-clause-ranges c = ranges_are_same

pub returns-clause-lasting : goal.returns-clause-lasting
returns-clause-lasting c = lasting_untouched

pub returns-clause-kept : goal.returns-clause-kept
returns-clause-kept c = inner_items_keep

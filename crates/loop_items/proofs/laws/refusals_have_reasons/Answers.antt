use Rattle.loop_items.proofs.LawLemmas.{none_is_refused, refusals_have_reasons, refusals_have_the_line}
use Rattle.loop_items.proofs.laws.refusals_have_reasons.Goals as goal

pub returns-clause-none : goal.returns-clause-none
returns-clause-none c = none_is_refused

pub returns-clause-reason : goal.returns-clause-reason
returns-clause-reason c = refusals_have_reasons

pub returns-clause-line : goal.returns-clause-line
returns-clause-line c = refusals_have_the_line

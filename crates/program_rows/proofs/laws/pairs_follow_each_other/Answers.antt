use Rattle.program_rows.proofs.PairLemmas.{fit_together, numbered-append, numbered_few}
use Rattle.program_rows.proofs.laws.pairs_follow_each_other.Goals as goal

pub returns-clause-inputs : goal.returns-clause-inputs
returns-clause-inputs c = numbered-append

pub returns-clause-fit : goal.returns-clause-fit
returns-clause-fit c = fit_together

pub returns-clause-few : goal.returns-clause-few
returns-clause-few c = numbered_few

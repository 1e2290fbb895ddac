use Rattle.legality_rules.proofs.RuleLemmas.{legal_prints}
use Rattle.legality_rules.proofs.laws.legal_prints_reducers.Goals as goal

pub returns : goal.returns
returns c = legal_prints

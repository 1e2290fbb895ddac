use Rattle.legality_rules.proofs.RuleLemmas.{legal_kinds}
use Rattle.legality_rules.proofs.laws.legal_keeps_kinds.Goals as goal

pub returns : goal.returns
returns c = legal_kinds

use Rattle.legality_rules.proofs.RuleLemmas.{legal_keeps, keeps_legal}
use Rattle.legality_rules.proofs.laws.legal_breaks_none.Goals as goal

pub returns : goal.returns
returns c = λ program. (legal_keeps program, keeps_legal program)

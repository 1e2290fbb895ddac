use Rattle.legality_rules.proofs.CutLemmas.{first_ends}
use Rattle.legality_rules.proofs.laws.first_ends_check.Goals as goal

pub returns : goal.returns
returns c = first_ends

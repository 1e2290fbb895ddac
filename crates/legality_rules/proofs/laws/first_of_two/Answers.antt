use Rattle.legality_rules.proofs.CutLemmas.{first_of_two}
use Rattle.legality_rules.proofs.laws.first_of_two.Goals as goal

pub returns : goal.returns
returns c = first_of_two

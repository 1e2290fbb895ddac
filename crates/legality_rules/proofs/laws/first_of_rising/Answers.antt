use Rattle.legality_rules.proofs.RisingLemmas.{first_of_rising}
use Rattle.legality_rules.proofs.laws.first_of_rising.Goals as goal

pub returns : goal.returns
returns c = first_of_rising

use Rattle.legality_rules.proofs.RisingLemmas.{first_of_parts}
use Rattle.legality_rules.proofs.laws.first_of_parts.Goals as goal

pub returns : goal.returns
returns c = first_of_parts

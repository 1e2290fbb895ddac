use Rattle.legality_rules.specs.Offences.{offences_of}
use Rattle.legality_rules.proofs.FirstLemmas.{found_is_first, first_is_found}
use Rattle.legality_rules.proofs.laws.first_is_first.Goals as goal

pub returns : goal.returns
returns c = λ program o. (found_is_first (offences_of program) o, first_is_found (offences_of program) o)

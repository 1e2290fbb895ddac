use Rattle.legality_rules.specs.Offences.{offences_of}
use Rattle.legality_rules.proofs.FirstLemmas.{one_is_first}
use Rattle.legality_rules.proofs.laws.one_first.Goals as goal

pub returns : goal.returns
returns c = λ program. one_is_first (offences_of program)

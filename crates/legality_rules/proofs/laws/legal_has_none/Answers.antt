use Rattle.std.proofs.Common.{ap}
use Rattle.legality_rules.specs.Offences.{offences_of, first_among}
use Rattle.legality_rules.proofs.FirstLemmas.{none_is_empty}
use Rattle.legality_rules.proofs.laws.legal_has_none.Goals as goal

pub returns : goal.returns
returns c = λ program. (none_is_empty (offences_of program), λ e. ap first_among e)

use Rattle.legality_check.proofs.InputLaws.{kinds_in_scope_are_well_formed}
use Rattle.legality_check.proofs.laws.kinds_in_scope_are_well_formed.Goals as goal

pub returns : goal.returns
returns c = kinds_in_scope_are_well_formed

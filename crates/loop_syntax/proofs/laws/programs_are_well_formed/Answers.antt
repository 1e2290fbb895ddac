use Rattle.loop_syntax.proofs.WellFormedTexts.{programs_are_well_formed}
use Rattle.loop_syntax.proofs.laws.programs_are_well_formed.Goals as goal

pub returns : goal.returns
returns c = programs_are_well_formed

use Rattle.loop_syntax.proofs.WellFormedTexts.{well_formed_is_spelled}
use Rattle.loop_syntax.proofs.laws.well_formed_is_spelled.Goals as goal

pub returns : goal.returns
returns c = well_formed_is_spelled

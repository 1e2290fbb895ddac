use Rattle.loop_syntax.proofs.WellFormedTexts.{few_parentheses}
use Rattle.loop_syntax.proofs.laws.few_parentheses.Goals as goal

pub returns : goal.returns
returns c = few_parentheses

use Rattle.loop_syntax.proofs.TextLaws.{never_neither}
use Rattle.loop_syntax.proofs.laws.never_neither.Goals as goal

pub returns : goal.returns
returns c = never_neither

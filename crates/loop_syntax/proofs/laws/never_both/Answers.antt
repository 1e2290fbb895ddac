use Rattle.loop_syntax.proofs.TextLaws.{never_both}
use Rattle.loop_syntax.proofs.laws.never_both.Goals as goal

pub returns : goal.returns
returns c = never_both

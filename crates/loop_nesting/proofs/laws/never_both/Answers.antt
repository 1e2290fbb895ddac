use Rattle.loop_nesting.proofs.Answers.{never_both}
use Rattle.loop_nesting.proofs.laws.never_both.Goals as goal

pub returns : goal.returns
returns c = never_both

use Rattle.loop_nesting.proofs.Answers.{never_neither}
use Rattle.loop_nesting.proofs.laws.never_neither.Goals as goal

pub returns : goal.returns
returns c = never_neither

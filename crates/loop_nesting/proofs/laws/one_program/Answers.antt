use Rattle.loop_nesting.proofs.Answers.{one_program}
use Rattle.loop_nesting.proofs.laws.one_program.Goals as goal

pub returns : goal.returns
returns c = one_program

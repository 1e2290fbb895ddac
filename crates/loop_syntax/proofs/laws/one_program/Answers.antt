use Rattle.loop_syntax.proofs.TextLaws.{one_program}
use Rattle.loop_syntax.proofs.laws.one_program.Goals as goal

pub returns : goal.returns
returns c = one_program

use Rattle.loop_lines.proofs.Verdicts.{one_saying}
use Rattle.loop_lines.proofs.verdict.one_saying.Goals as goal

pub returns : goal.returns
returns c = one_saying

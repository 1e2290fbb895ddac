use Rattle.loop_lines.proofs.Verdicts.{one_verdict}
use Rattle.loop_lines.proofs.verdict.one_verdict.Goals as goal

pub returns : goal.returns
returns c = one_verdict

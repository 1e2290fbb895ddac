use Rattle.loop_lines.proofs.OneLine.{one_line}
use Rattle.loop_lines.proofs.forms.one_line.Goals as goal

pub returns : goal.returns
returns c = one_line

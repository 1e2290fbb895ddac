use Rattle.loop_layout.proofs.RowLines.{rows_are_lines}
use Rattle.loop_layout.proofs.laws.rows_are_lines.Goals as goal

pub returns : goal.returns
returns c = rows_are_lines

use Rattle.loop_layout.proofs.LineBytes.{laid_out_lines}
use Rattle.loop_layout.proofs.laws.laid_out_lines.Goals as goal

pub returns : goal.returns
returns c = laid_out_lines

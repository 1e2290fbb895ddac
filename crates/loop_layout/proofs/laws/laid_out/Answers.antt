use Rattle.loop_layout.proofs.LongestTokens.{laid_out}
use Rattle.loop_layout.proofs.laws.laid_out.Goals as goal

pub returns : goal.returns
returns c = laid_out

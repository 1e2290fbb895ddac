use Rattle.std.proofs.Common.{length}
use Rattle.loop_heads.proofs.axis.+factors.Given as goal

abbrev pub decreases-factors : goal.decreases-factors
decreases-factors l = length l.tokens.now

use Rattle.std.proofs.Common.{length}
use Rattle.loop_heads.proofs.axis.+axes.Given as goal

abbrev pub decreases-axes : goal.decreases-axes
decreases-axes l = length l.tokens.now

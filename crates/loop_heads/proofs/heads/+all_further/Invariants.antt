use Rattle.std.proofs.Common.{length}
use Rattle.loop_heads.proofs.heads.+all_further.Given as goal

abbrev pub decreases-all_further : goal.decreases-all_further
decreases-all_further l = length l.tokens.now

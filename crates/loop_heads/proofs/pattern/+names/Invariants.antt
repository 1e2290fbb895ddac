use Rattle.std.proofs.Common.{length}
use Rattle.loop_heads.proofs.pattern.+names.Given as goal

abbrev pub decreases-names : goal.decreases-names
decreases-names l = length l.tokens.now

use Rattle.loop_heads.proofs.Patterns.{one_pattern}
use Rattle.loop_heads.proofs.pattern.one_pattern.Goals as goal

pub returns : goal.returns
returns c = one_pattern

use Rattle.loop_layout.proofs.LineSpacing.{canonical_spaces}
use Rattle.loop_layout.proofs.laws.canonical_spaces.Goals as goal

pub returns : goal.returns
returns c = canonical_spaces

use Rattle.loop_tokens.proofs.ReadBack.{escapes_read_back}
use Rattle.loop_tokens.proofs.laws.escapes_read_back.Goals as goal

pub returns : goal.returns
returns c = escapes_read_back

use Rattle.loop_exprs.proofs.Unique.{one_reading}
use Rattle.loop_exprs.proofs.read.one_reading.Goals as goal

pub returns : goal.returns
returns c = one_reading

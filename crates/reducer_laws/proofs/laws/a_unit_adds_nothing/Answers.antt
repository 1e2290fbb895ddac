use Rattle.std.proofs.Common.{[], append-nil}
use Rattle.reducer_laws.proofs.laws.a_unit_adds_nothing.Goals as goal

pub returns : goal.returns
returns g c = λ r xs unit x left right u h before after. (before [] xs u h, rw append-nil at (after xs [] h u))

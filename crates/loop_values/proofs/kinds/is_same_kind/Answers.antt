use Rattle.std.proofs.Common.{rules}
use Rattle.loop_values.proofs.SameLemmas.{same_kind-sound, same_kind-along}
use Rattle.loop_values.proofs.kinds.is_same_kind.Goals as goal

pub returns : goal.returns
returns c = search (rules, same_kind-sound, same_kind-along)

use Rattle.std.proofs.Common.{rules}
use Rattle.tower_inputs.proofs.SameKinds.{same_kinds-sound, same_kinds-along}
use Rattle.tower_inputs.proofs.types.are_same_kinds.Goals as goal

pub returns-clause-same : goal.returns-clause-same
returns-clause-same c = search (rules, same_kinds-sound, same_kinds-along)

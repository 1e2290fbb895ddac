use Rattle.std.proofs.Common.{◌≡◌}
use Rattle.fold_steal.proofs.RoundSteps.{NoneBefore}
use Rattle.fold_steal.proofs.dealing.halve_one.Given as goal

abbrev pub invariant-loop-k : goal.invariant-loop-k
invariant-loop-k l = (l.parts.items ≡ l.initial.parts.items) × NoneBefore l.len l.k l.initial.parts.items

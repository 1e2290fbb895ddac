use Rattle.std.proofs.Common.{◌≡◌, take}
use Rattle.fold_steal.specs.Deals.{longest}
use Rattle.fold_steal.proofs.dealing.longest_of.Given as goal

abbrev pub invariant-loop-part : goal.invariant-loop-part
invariant-loop-part l = l.len ≡ longest (take l.part-index l.parts)

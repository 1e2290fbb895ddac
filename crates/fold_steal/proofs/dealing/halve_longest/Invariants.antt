use Rattle.std.proofs.Common.{◌≡◌, ◌-◌}
use Rattle.fold_steal.specs.Deals.{deal_rounds}
use Rattle.fold_steal.proofs.dealing.halve_longest.Given as goal

abbrev pub invariant-loop : goal.invariant-loop
invariant-loop l = deal_rounds (l.fn.rounds - l.counter) l.least l.parts.items ≡ deal_rounds l.fn.rounds l.least l.initial.parts.items

use Rattle.std.proofs.Common.{◌≡◌, drop}
use Rattle.legality_rules.specs.Scopes.{is_in}
use Rattle.legality_names.proofs.names.is_in.Given as goal

-- the name is one of all exactly where it is one of those to come
abbrev pub invariant-loop-other : goal.invariant-loop-other
invariant-loop-other l = is_in l.names l.name ≡ is_in (drop l.other-index l.names) l.name

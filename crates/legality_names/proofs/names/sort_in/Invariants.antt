use Rattle.std.proofs.Common.{◌≡◌, drop}
use Rattle.legality_rules.specs.Scopes.{sort_in}
use Rattle.legality_names.proofs.names.sort_in.Given as goal

-- the name is in scope as it is among the names to come
abbrev pub invariant-loop-known : goal.invariant-loop-known
invariant-loop-known l = sort_in l.scope l.name ≡ sort_in (drop l.known-index l.scope) l.name

use Rattle.std.proofs.Common.{◌≡◌, drop}
use Rattle.legality_rules.specs.Scopes.{is_in}
use Rattle.legality_names.specs.Names.{site_names}
use Rattle.legality_names.proofs.names.is_reduced.Given as goal

-- the name is one of all exactly where it is one of those to come
abbrev pub invariant-loop-site : goal.invariant-loop-site
invariant-loop-site l = is_in (site_names l.sites) l.name ≡ is_in (site_names (drop l.site-index l.sites)) l.name

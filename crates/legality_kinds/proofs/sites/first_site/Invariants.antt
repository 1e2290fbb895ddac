use Rattle.std.proofs.Common.{◌≡◌, drop}
use Rattle.legality_kinds.specs.Sites.{first_site}
use Rattle.legality_kinds.proofs.sites.first_site.Given as goal

-- the first of all is the first of those to come
abbrev pub invariant-loop-site : goal.invariant-loop-site
invariant-loop-site l = first_site l.name l.sites ≡ first_site l.name (drop l.site-index l.sites)

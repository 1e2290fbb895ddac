use Rattle.std.proofs.Common.{◌≡◌, drop}
use Rattle.std.specs.Prelude.{filter}
use Rattle.legality_rules.specs.Scopes.{is_in}
use Rattle.legality_names.specs.Answers.{leftmost}
use Rattle.legality_names.proofs.names.first_among.Given as goal

-- the leftmost of all is the leftmost of those to come
abbrev pub invariant-loop-name : goal.invariant-loop-name
invariant-loop-name l = leftmost (filter (is_in l.others) l.names) ≡ leftmost (filter (is_in l.others) (drop l.name-index l.names))

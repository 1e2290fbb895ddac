use Rattle.std.proofs.Common.{◌≡◌, drop}
use Rattle.legality_names.specs.Answers.{leftmost}
use Rattle.legality_names.specs.Names.{unknown}
use Rattle.legality_names.proofs.names.unknown.Given as goal

-- the leftmost of all is the leftmost of those to come
abbrev pub invariant-loop-name : goal.invariant-loop-name
invariant-loop-name l = leftmost (unknown l.reducers l.scope l.names) ≡ leftmost (unknown l.reducers l.scope (drop l.name-index l.names))

use Rattle.std.proofs.Common.{◌≡◌, ◌++◌, take, drop}
use Rattle.legality_rules.specs.Rules.{repeated}
use Rattle.legality_names.specs.Answers.{leftmost}
use Rattle.legality_names.specs.Names.{taken}
use Rattle.legality_names.proofs.names.repeated.Given as goal

-- none of the names so far stands there twice
abbrev pub invariant-loop-i : goal.invariant-loop-i
invariant-loop-i l = leftmost (repeated (taken l.bound l.sites) l.names) ≡ leftmost (repeated (taken l.bound l.sites ++ take l.i l.names) (drop l.i l.names))

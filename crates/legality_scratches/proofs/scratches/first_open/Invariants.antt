use Rattle.std.proofs.Common.{◌≡◌, drop}
use Rattle.std.specs.Prelude.{filter}
use Rattle.legality_names.specs.Answers.{leftmost}
use Rattle.legality_scratches.specs.Scans.{is_open}
use Rattle.legality_scratches.proofs.scratches.first_open.Given as goal

-- the leftmost of all is the leftmost of those to come
abbrev pub invariant-loop-name : goal.invariant-loop-name
invariant-loop-name l = leftmost (filter (is_open l.names l.marks) l.used) ≡ leftmost (filter (is_open l.names l.marks) (drop l.name-index l.used))

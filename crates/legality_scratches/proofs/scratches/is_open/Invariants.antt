use Rattle.std.proofs.Common.{◌≡◌}
use Rattle.legality_scratches.specs.Scans.{is_open}
use Rattle.legality_scratches.proofs.scratches.is_open.Given as goal

-- the name is open among all exactly where it is among those to come
abbrev pub invariant-loop-other : goal.invariant-loop-other
invariant-loop-other l = is_open l.names l.marks l.name ≡ is_open l.other-iterator.a.rest.now l.other-iterator.b.rest.now l.name

use Rattle.std.proofs.Common.{◌≡◌, ◌++◌}
use Rattle.legality_scratches.specs.Scans.{close}
use Rattle.legality_scratches.proofs.scratches.close.Given as goal

-- with the marks to come, these are all
abbrev pub invariant-loop-other : goal.invariant-loop-other
invariant-loop-other l = l.closed ++ close l.other-iterator.a.rest.now l.other-iterator.b.rest.now l.name ≡ close l.names l.marks l.name

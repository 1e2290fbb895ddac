use Rattle.std.proofs.Common.{◌≡◌, replicate}
use Rattle.legality_scratches.proofs.scratches.filled.Given as goal

-- so many marks were put
abbrev pub invariant-loop : goal.invariant-loop
invariant-loop l = l.marks ≡ replicate l.counter l.mark

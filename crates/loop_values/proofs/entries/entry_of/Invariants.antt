use Rattle.std.proofs.Common.{◌≡◌, drop}
use Rattle.std.specs.Ordering.{nat_cmp}
use Rattle.std.specs.Cmp.Lexicographic.{slice_cmp}
use Rattle.std.specs.FinMap.{find}
use Rattle.loop_values.proofs.entries.entry_of.Given as goal

-- the name isn't among the entries so far
abbrev pub invariant-loop-key : goal.invariant-loop-key
invariant-loop-key g l = find (slice_cmp nat_cmp) l.name l.held ≡ find (slice_cmp nat_cmp) l.name (drop l.key-index l.held)

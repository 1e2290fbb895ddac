use Rattle.std.proofs.Common.{◌≡◌, drop, map, length}
use Rattle.loop_values.specs.Kinds.{same_kind, same_all}
use Rattle.loop_values.proofs.kinds.+same_kind.Given as goal

abbrev pub invariant-loop-i : goal.invariant-loop-i
invariant-loop-i l = record {
  lengths : length l.xs ≡ length l.ys;
  rest : same_all (map same_kind (drop l.i l.xs)) (drop l.i l.ys) ≡ same_all (map same_kind l.xs) l.ys;
}

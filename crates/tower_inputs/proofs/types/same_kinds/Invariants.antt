use Rattle.std.proofs.Common.{◌≡◌, drop, length}
use Rattle.tower_inputs.specs.InputKinds.{same_kinds}
use Rattle.tower_inputs.proofs.types.same_kinds.Given as goal

abbrev pub invariant-loop-i : goal.invariant-loop-i
invariant-loop-i l = record {
  lengths : length l.a ≡ length l.b;
  rest : same_kinds (drop l.i l.a) (drop l.i l.b) ≡ same_kinds l.a l.b;
}

use Rattle.std.proofs.Common.{◌≡◌, ◌≤◌, drop}
use Rattle.loop_values.specs.Spelling.{natural_after}
use Rattle.loop_values.proofs.spelling.natural.Given as goal

abbrev pub invariant-loop-c : goal.invariant-loop-c
invariant-loop-c l = record {
  same : natural_after l.n (drop l.c-index l.digits) ≡ natural_after 0 l.digits;
  small : l.n ≤ 9223372036854775808;
}

use Rattle.std.proofs.Common.{◌≡◌, ◌≤◌, ◌^◌, ◌+◌, ◌-◌, ◌*◌, fold, drop}
use Rattle.loop_tokens.specs.Literals.{number_of}
use Rattle.loop_tokens.proofs.literal.number_of.Given as goal

abbrev pub invariant-loop-b : goal.invariant-loop-b
invariant-loop-b l = record {
  small : l.value ≤ 2 ^ 63;
  ahead : fold (λ n d. 10 * n + (d - 48)) l.value (drop l.b-index l.b-items) ≡ number_of l.digits;
}

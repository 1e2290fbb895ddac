use Rattle.std.proofs.Common.{◌≡◌, ◌++◌}
use Rattle.std.specs.Vec.Iter.{drain_items}
use Rattle.transducer_kit.proofs.spread.put_behind.Given as goal

-- the pairs so far stand behind the list, and the others are left
abbrev pub invariant-loop-pair : goal.invariant-loop-pair
invariant-loop-pair l = record {
  rest : l.yielded ++ drain_items l.pair-iterator ≡ l.fn.more;
  pairs : l.pairs ≡ l.initial.pairs ++ l.yielded;
}

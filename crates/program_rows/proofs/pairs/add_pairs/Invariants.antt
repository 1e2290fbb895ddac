use Rattle.std.proofs.Common.{◌≡◌, ◌++◌}
use Rattle.std.specs.Vec.Iter.{drain_items}
use Rattle.program_rows.specs.Pairs.{TakeBehind, numbered}
use Rattle.program_rows.proofs.pairs.add_pairs.Given as goal

-- the pairs so far are in the states, and the others are left
abbrev pub invariant-loop-pair : goal.invariant-loop-pair
invariant-loop-pair l = record {
  rest : l.yielded ++ drain_items l.pair-iterator ≡ l.fn.pairs;
  states : TakeBehind l.row.towers.items l.initial.state l.state (numbered l.row.towers.items l.yielded);
}

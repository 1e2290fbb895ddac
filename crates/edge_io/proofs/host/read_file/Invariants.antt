use Rattle.std.proofs.Common.{◌≤◌, ◌-◌}
use Rattle.edge_io.specs.Reading.{GrowsByAtMost}
use Rattle.edge_io.proofs.host.read_file.Given as goal

abbrev pub invariant-loop : goal.invariant-loop
invariant-loop g l = record {
  grown : GrowsByAtMost (l.limit - l.left) l.fn.into.items l.into.items;
  within : l.left ≤ l.limit;
}

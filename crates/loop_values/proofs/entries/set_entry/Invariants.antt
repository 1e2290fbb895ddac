use Rattle.std.proofs.Common.{◌≡◌, ◌++◌, take, drop}
use Rattle.std.specs.Ordering.{nat_cmp}
use Rattle.std.specs.Cmp.Lexicographic.{slice_cmp}
use Rattle.std.specs.FinMap.{find}
use Rattle.loop_values.specs.Entries.{with_entry}
use Rattle.loop_values.proofs.entries.set_entry.Given as goal

-- the name isn't among the entries so far
abbrev pub invariant-loop-i : goal.invariant-loop-i
invariant-loop-i g l = record {
  same : l.held.items ≡ l.fn.held.items;
  unknown : find (slice_cmp nat_cmp) l.name l.held.items ≡ find (slice_cmp nat_cmp) l.name (drop l.i l.held.items);
  rest : take l.i l.held.items ++ with_entry (drop l.i l.held.items) l.name l.item ≡ with_entry l.held.items l.name l.item;
}

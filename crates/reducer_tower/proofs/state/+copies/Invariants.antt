use Rattle.std.proofs.Common.{map}
use Rattle.std.specs.Map.Iter.{deref_pair}
use Rattle.reducer_tower.proofs.CopyLemmas.{Copied}
use Rattle.reducer_tower.proofs.state.+copies.Given as goal

abbrev pub invariant-copy_groups-loop-key : goal.invariant-copy_groups-loop-key
invariant-copy_groups-loop-key l = Copied (map deref_pair l.yielded) l.copies

use Rattle.std.proofs.Common.{◌≡◌, ◌++◌, map, drop}
use Rattle.loop_values.specs.NamesIn.{all_names, names_read}
use Rattle.legality_names.proofs.reads.+push_reads.Given as goal

-- with the names in the parts to come, these are all
abbrev pub invariant-loop-part : goal.invariant-loop-part
invariant-loop-part l = l.names ++ all_names (map names_read (drop l.part-index l.part-items)) ≡ l.initial.names ++ all_names (map names_read l.part-items)

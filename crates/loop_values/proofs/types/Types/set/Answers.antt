use Rattle.std.proofs.Common.{rules}
use Rattle.loop_values.proofs.EntryLemmas.{from_entries-with_entry, known-view}
use Rattle.loop_values.proofs.types.Types.set.Goals as goal

pub returns-clause-ok : goal.returns-clause-ok
returns-clause-ok c = search (rules, from_entries-with_entry)

pub returns-clause-known : goal.returns-clause-known
returns-clause-known c = search (rules, known-view)

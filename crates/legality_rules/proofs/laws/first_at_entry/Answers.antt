use Rattle.legality_rules.proofs.CutLemmas.{first_at_entry}
use Rattle.legality_rules.proofs.laws.first_at_entry.Goals as goal

pub returns : goal.returns
returns c = first_at_entry

use Rattle.legality_rules.proofs.CutLemmas.{entries_of_two}
use Rattle.legality_rules.proofs.laws.entries_of_two.Goals as goal

pub returns : goal.returns
returns c = entries_of_two

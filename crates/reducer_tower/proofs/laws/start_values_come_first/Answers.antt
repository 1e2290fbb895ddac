use Rattle.reducer_tower.proofs.InputLemmas.{starts_come_first}
use Rattle.reducer_tower.proofs.laws.start_values_come_first.Goals as goal

pub returns : goal.returns
returns c = starts_come_first

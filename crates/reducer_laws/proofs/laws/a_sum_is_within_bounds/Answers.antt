use Rattle.reducer_laws.proofs.NumberLemmas.{sum_within}
use Rattle.reducer_laws.proofs.laws.a_sum_is_within_bounds.Goals as goal

pub returns : goal.returns
returns c = sum_within

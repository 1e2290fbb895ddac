use Rattle.reducer_laws.proofs.ExtremeLemmas.{least_said, greatest_said}
use Rattle.reducer_laws.proofs.laws.a_state_with_its_place_says_the_result.Goals as goal

pub returns : goal.returns
returns g c = record { least = least_said g.T.Ord.cmp g.met.T.Ord.total; greatest = greatest_said g.T.Ord.cmp g.met.T.Ord.total }

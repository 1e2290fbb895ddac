use Rattle.std.specs.Cmp.{nat_cmp_total}
use Rattle.loop_results.proofs.ExtremeLemmas.{least_place}
use Rattle.reducer_laws.proofs.ExtremeLemmas.{at_most}
use Rattle.reducer_laws.proofs.laws.the_least_stands_at_its_least_place.Goals as goal

pub returns : goal.returns
returns g c = least_place g.met.T.Ord.total nat_cmp_total at_most

use Rattle.std.specs.Cmp.{int_cmp_total}
use Rattle.loop_data.specs.OrderLaws.{values_total}
use Rattle.loop_results.proofs.ExtremeLemmas.{at_most_z, least_best_place, greatest_best_place}
use Rattle.loop_results.proofs.laws.an_extreme_stands_at_its_least_place.Goals as goal

pub returns : goal.returns
returns c = record { least = least_best_place values_total int_cmp_total at_most_z; greatest = greatest_best_place values_total int_cmp_total at_most_z }

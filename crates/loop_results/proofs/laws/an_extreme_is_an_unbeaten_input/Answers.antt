use Rattle.loop_data.specs.OrderLaws.{values_total}
use Rattle.loop_results.specs.Orders.{smaller_is_order, greater_is_order}
use Rattle.loop_results.proofs.ExtremeLemmas.{best_is_unbeaten}
use Rattle.loop_results.proofs.laws.an_extreme_is_an_unbeaten_input.Goals as goal

pub returns : goal.returns
returns c = record { least = best_is_unbeaten (smaller_is_order values_total); greatest = best_is_unbeaten (greater_is_order values_total) }

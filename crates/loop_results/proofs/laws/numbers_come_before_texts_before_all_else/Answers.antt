use Rattle.loop_results.proofs.OrderLemmas.{in_order, mixed}
use Rattle.loop_results.proofs.laws.numbers_come_before_texts_before_all_else.Goals as goal

pub returns : goal.returns
returns c = record { order = in_order; example = mixed }

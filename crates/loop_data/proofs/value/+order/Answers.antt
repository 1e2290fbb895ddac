use Rattle.std.proofs.Common.{sym, ◌∙◌}
use Rattle.loop_data.specs.OrderLaws.{tuples_cmp}
use Rattle.loop_data.proofs.value.+order.Goals as goal

pub ValueOrd::cmp-returns-in-Tuple-Tuple : goal.ValueOrd::cmp-returns-in-Tuple-Tuple
ValueOrd::cmp-returns-in-Tuple-Tuple t c =
    rw (c.in-Tuple-Tuple.is-0, c.in-Tuple-Tuple.is-1) (c.cmp-in-Tuple-Tuple.ensures ∙ sym (tuples_cmp _ _))

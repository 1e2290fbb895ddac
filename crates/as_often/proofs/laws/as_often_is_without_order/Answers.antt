use Rattle.as_often.proofs.Weighing.{order_is_no_matter, as_long, as_worthy, as_many_pass}
use Rattle.as_often.proofs.laws.as_often_is_without_order.Goals as goal

pub returns-clause-order : goal.returns-clause-order
returns-clause-order c = order_is_no_matter

pub returns-clause-long : goal.returns-clause-long
returns-clause-long c = as_long

pub returns-clause-places : goal.returns-clause-places
returns-clause-places c = as_worthy

pub returns-clause-tests : goal.returns-clause-tests
returns-clause-tests c = as_many_pass

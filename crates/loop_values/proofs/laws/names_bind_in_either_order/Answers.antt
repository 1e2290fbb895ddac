use Rattle.loop_values.proofs.BindingLaws.{insert_comm}
use Rattle.loop_values.proofs.laws.names_bind_in_either_order.Goals as goal

pub returns-clause-value : goal.returns-clause-value
returns-clause-value c = insert_comm

pub returns-clause-kind : goal.returns-clause-kind
returns-clause-kind c = insert_comm

use Rattle.loop_values.proofs.BindingLaws.{get-bound, get-other}
use Rattle.loop_values.proofs.laws.bound_name_has_its_value.Goals as goal

pub returns-clause-value : goal.returns-clause-value
returns-clause-value c = get-bound

pub returns-clause-kind : goal.returns-clause-kind
returns-clause-kind c = get-bound

pub returns-clause-other_value : goal.returns-clause-other_value
returns-clause-other_value c = get-other

pub returns-clause-other_kind : goal.returns-clause-other_kind
returns-clause-other_kind c = get-other

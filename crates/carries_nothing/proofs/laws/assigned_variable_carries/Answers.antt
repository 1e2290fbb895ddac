use Rattle.carries_nothing.proofs.CarriedVariable.{carries, illegal}
use Rattle.carries_nothing.proofs.laws.assigned_variable_carries.Goals as goal

pub returns-clause-carries : goal.returns-clause-carries
returns-clause-carries c = carries

pub returns-clause-illegal : goal.returns-clause-illegal
returns-clause-illegal c = illegal

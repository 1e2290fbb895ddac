use Rattle.carries_nothing.proofs.CarriedScratch.{carries, illegal}
use Rattle.carries_nothing.proofs.laws.scratch_on_unwritten_path_carries.Goals as goal

pub returns-clause-carries : goal.returns-clause-carries
returns-clause-carries c = carries

pub returns-clause-illegal : goal.returns-clause-illegal
returns-clause-illegal c = illegal

use Rattle.carries_nothing.proofs.Cuts.{legal_carries_nothing, parts_end_as_whole, parts_leave_alike}
use Rattle.carries_nothing.proofs.laws.legal_loop_carries_nothing.Goals as goal

pub returns-clause-parts : goal.returns-clause-parts
returns-clause-parts c = legal_carries_nothing

pub returns-clause-stores : goal.returns-clause-stores
returns-clause-stores c = parts_leave_alike

pub returns-clause-end : goal.returns-clause-end
returns-clause-end c = parts_end_as_whole

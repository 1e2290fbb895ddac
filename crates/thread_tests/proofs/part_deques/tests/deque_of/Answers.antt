use Rattle.std.proofs.Common.{ap}
use Rattle.splittable.specs.Parts.{Stretch}
use Rattle.thread_tests.proofs.Ends.{of_own_shape}
use Rattle.thread_tests.proofs.part_deques.tests.deque_of.Goals as goal

pub returns-clause-node : goal.returns-clause-node
returns-clause-node c = of_own_shape _ _ (ap (λ (p : Stretch). p.lens) c.in-Some.ensures.whole) (c.in-Some.ensures.node 1)

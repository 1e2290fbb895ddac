use Rattle.std.proofs.Common.{subst}
use Rattle.splittable.specs.Nodes.{IsNode}
use Rattle.lower_tests.proofs.parts.check_job.Goals as goal

-- the whole is a node for each least part size
pub compare_nodes-requires-clause-node : goal.compare_nodes-requires-clause-node
compare_nodes-requires-clause-node g c = subst (λ lens. IsNode lens 1 c.in-Some.whole) c.shape.ensures (c.in-Some.ensures.node 1)

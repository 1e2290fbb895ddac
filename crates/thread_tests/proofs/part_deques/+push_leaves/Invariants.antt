use Rattle.thread_tests.proofs.part_deques.+push_leaves.Given as goal

abbrev pub decreases-push_leaves : goal.decreases-push_leaves
decreases-push_leaves l = l.part.len

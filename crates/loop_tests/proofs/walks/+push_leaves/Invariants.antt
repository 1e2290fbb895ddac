use Rattle.loop_tests.proofs.walks.+push_leaves.Given as goal

-- how many halvings are left
abbrev pub decreases-push_leaves : goal.decreases-push_leaves
decreases-push_leaves l = l.depth

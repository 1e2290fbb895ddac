use Rattle.legality_lines.proofs.BranchSteps.{next_branch}
use Rattle.legality_lines.proofs.walk.+walk.Goals as goal

-- one branch, and then the others
pub check_branches-loop-branch-preserved : goal.check_branches-loop-branch-preserved
check_branches-loop-branch-preserved t c =
    next_branch c.args.reducers.now c.args.branches.now c.loop-branch.branch-index c.branch-item.result c.loop-branch.first c.loop-branch.state c.in_ok-state.state _
    c.loop-branch-test.true c.branch-item.is c.loop-branch.invariant (c.in_ok-state.ensures (λ e. absurd (cc)))

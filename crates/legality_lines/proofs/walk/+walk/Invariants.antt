use Rattle.std.proofs.Common.{◌≡◌, map, drop, true}
use Rattle.legality_lines.specs.Walks.{block_checked, branch_checked, branches_checked, statement_checked}
use Rattle.legality_lines.proofs.walk.+walk.Given as goal

-- the statements to come do the rest of the check
abbrev pub invariant-check_block-loop-statement : goal.invariant-check_block-loop-statement
invariant-check_block-loop-statement l =
    block_checked (map (statement_checked l.reducers) (drop l.statement-index l.block)) l.state ≡ block_checked (map (statement_checked l.reducers) l.block) l.initial.state

-- the branches to come do the rest of the check
abbrev pub invariant-check_branches-loop-branch : goal.invariant-check_branches-loop-branch
invariant-check_branches-loop-branch l =
    branches_checked (map (branch_checked l.reducers) (drop l.branch-index l.branches)) l.first l.state ≡ branches_checked (map (branch_checked l.reducers) l.branches) true l.initial.state

use Rattle.std.proofs.Common.{◌≡◌, map, drop}
use Rattle.legality_scratches.specs.Scans.{block_scanned, branch_scanned, branches_scanned, statement_scanned}
use Rattle.legality_scratches.proofs.scratches.+scan.Given as goal

-- the statements to come do the rest of the pass
abbrev pub invariant-scan_block-loop-statement : goal.invariant-scan_block-loop-statement
invariant-scan_block-loop-statement l =
    block_scanned (map (statement_scanned l.names) (drop l.statement-index l.block)) l.marks ≡ block_scanned (map (statement_scanned l.names) l.block) l.initial.marks

-- the branches to come do the rest of the pass
abbrev pub invariant-scan_branches-loop-branch : goal.invariant-scan_branches-loop-branch
invariant-scan_branches-loop-branch l =
    branches_scanned (map (branch_scanned l.names) (drop l.branch-index l.branches)) l.marks l.out ≡ branches_scanned (map (branch_scanned l.names) l.branches) l.marks l.initial.out

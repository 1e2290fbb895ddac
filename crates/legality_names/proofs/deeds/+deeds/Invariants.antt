use Rattle.std.proofs.Common.{◌≡◌, ◌++◌, map, drop}
use Rattle.loop_values.specs.NamesIn.{all_names}
use Rattle.legality_names.specs.Deeds.{done_by, done_in_branch}
use Rattle.legality_names.proofs.deeds.+deeds.Given as goal

-- with the names in the statements to come, these are all
abbrev pub invariant-push_block-loop-statement : goal.invariant-push_block-loop-statement
invariant-push_block-loop-statement l = l.names ++ all_names (map (done_by l.deed) (drop l.statement-index l.block)) ≡ l.initial.names ++ all_names (map (done_by l.deed) l.block)

-- with the names in the branches to come, these are all
abbrev pub invariant-push_branches-loop-branch : goal.invariant-push_branches-loop-branch
invariant-push_branches-loop-branch l = l.names ++ all_names (map (done_in_branch l.deed) (drop l.branch-index l.branches)) ≡ l.initial.names ++ all_names (map (done_in_branch l.deed) l.branches)

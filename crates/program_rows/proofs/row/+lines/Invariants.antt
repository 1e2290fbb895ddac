use Rattle.std.proofs.Common.{◌≡◌, ◌++◌, drop, map}
use Rattle.fitting_inputs.specs.ReduceLines.{all_lines, lines_in, lines_in_branch}
use Rattle.program_rows.specs.Rows.{named_line}
use Rattle.program_rows.proofs.row.+lines.Given as goal

-- those of the conditions that are left make the whole
abbrev pub invariant-push_branches-loop-branch : goal.invariant-push_branches-loop-branch
invariant-push_branches-loop-branch l =
    l.lines.items ++ map named_line (all_lines (map lines_in_branch (drop l.branch-index l.branches))) ≡ l.initial.lines.items ++ map named_line (all_lines (map lines_in_branch l.branches))

-- those of the statements that are left make the whole
abbrev pub invariant-push_block-loop-statement : goal.invariant-push_block-loop-statement
invariant-push_block-loop-statement l =
    l.lines.items ++ map named_line (all_lines (map lines_in (drop l.statement-index l.block))) ≡ l.initial.lines.items ++ map named_line (all_lines (map lines_in l.block))

use Rattle.std.proofs.Common.{take, map}
use Rattle.loop_writer.specs.Programs.{block_lines, branches_lines, branch_lines}
use Rattle.loop_writer.specs.Writing.{Wrote}
use Rattle.loop_writer.proofs.program.+statements.Given as goal

-- the statements so far were written
abbrev pub invariant-write_block-loop-statement : goal.invariant-write_block-loop-statement
invariant-write_block-loop-statement l = Wrote l.initial.rows l.rows (block_lines (take l.statement-index l.block) l.depth)

-- the conditions so far were written, with their blocks
abbrev pub invariant-write_branches-loop-i : goal.invariant-write_branches-loop-i
invariant-write_branches-loop-i l = Wrote l.initial.rows l.rows (branches_lines (map branch_lines (take l.i l.branches)) l.depth)

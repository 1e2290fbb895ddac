use Rattle.std.proofs.Common.{◌<◌, List, map, length, refl, sym, subst, arith}
use Rattle.loop_data.specs.declared.statement.Statement.{Statement}
use Rattle.loop_data.specs.declared.statement.Branch.{Branch}
use Rattle.loop_grammar.specs.declared.line.Line.TheVariants as l
use Rattle.loop_writer.specs.Programs.{branches_lines, branch_lines, else_lines, statement_lines}
use Rattle.loop_writer.specs.Writing.{Wrote}
use Rattle.loop_writer.proofs.Lists.{then_ok}
use Rattle.loop_writer.proofs.Parts.{else_written, if_written, continue_written, break_written}
use Rattle.loop_writer.proofs.Writes.{block_step, branches_step}
use Rattle.loop_writer.proofs.program.+statements.Goals as goal

-- one more statement was written
pub write_block-loop-statement-preserved : goal.write_block-loop-statement-preserved
write_block-loop-statement-preserved t c =
    let within : c.loop-statement.statement-index < length c.args.block.now = omega arith in
    block_step c.args.block.now c.loop-statement.statement-index c.statement-item.result c.args.depth.now c.args.rows.now c.loop-statement.rows c.write_statement.new.rows within (sym c.statement-item.is)
    c.loop-statement.invariant c.in_ok-write_statement.ensures

-- one more condition was written, with its block
pub write_branches-loop-i-preserved : goal.write_branches-loop-i-preserved
write_branches-loop-i-preserved t c =
    let within : c.loop-i.i < length c.args.branches.now = omega arith in
    branches_step c.args.branches.now c.loop-i.i c.index-branches-i.result c.args.depth.now c.args.rows.now c.loop-i.rows c.write_branch.new.rows within (sym c.index-branches-i.is)
    c.loop-i.invariant c.in_ok-write_branch.ensures

pub write_else-returns : goal.write_else-returns
write_else-returns t c =
    else_written c.args.line c.args.block.now c.args.depth.now c.in_ok-inside.inside c.args.rows.now c.word_line.new.rows c.write_block.new.rows c.if-line-eq0.false c.in_ok-inside.ensures
    (c.in_ok-word_line.ensures l.Else refl) c.in_ok-write_block.ensures

pub write_statement-returns-in_ok-write_else-in-If :
    goal.write_statement-returns-in_ok-write_else-in-If
write_statement-returns-in_ok-write_else-in-If t c =
    let P : List Branch → Type 0 = λ bs. Wrote c.args.rows.now c.write_branches.new.rows (branches_lines (map branch_lines bs) c.args.depth.now) in
    let Q : List Statement → Type 0 = λ block. Wrote c.write_branches.new.rows c.write_else.new.rows (else_lines c.in-If.else_line (map statement_lines block) c.args.depth.now) in
    then_ok c.word_line.result
    (λ ended. if_written c.args.statement.now c.in-If.line c.in-If.branches c.in-If.else_line c.in-If.other c.in-If.end_line c.args.depth.now c.args.rows.now c.write_branches.new.rows c.write_else.new.rows
    c.word_line.new.rows c.in-If.is (subst P c.as_slice-in-If.ensures c.in_ok-write_branches-in-If.ensures) (subst Q c.as_slice-in-If-2.ensures c.in_ok-write_else-in-If.ensures) (ended l.End refl))
    c.word_line.ensures

pub write_statement-returns-in-Continue : goal.write_statement-returns-in-Continue
write_statement-returns-in-Continue t c =
    then_ok c.word_line-in-Continue.result
    (λ ended. continue_written c.args.statement.now c.in-Continue.line c.args.depth.now c.args.rows.now c.word_line-in-Continue.new.rows c.in-Continue.is (ended l.Continue refl)) c.word_line-in-Continue.ensures

pub write_statement-returns-in-Break : goal.write_statement-returns-in-Break
write_statement-returns-in-Break t c =
    then_ok c.word_line-in-Break.result
    (λ ended. break_written c.args.statement.now c.in-Break.line c.args.depth.now c.args.rows.now c.word_line-in-Break.new.rows c.in-Break.is (ended l.Break refl)) c.word_line-in-Break.ensures

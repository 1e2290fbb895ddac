use Rattle.loop_lines.proofs.OneLine.{no_skip, skip_spelled}
use Rattle.loop_lines.proofs.forms.skip_line.Goals as goal

pub returns-then-is_skip : goal.returns-then-is_skip
returns-then-is_skip c = skip_spelled c.args.word.now c.args.tokens.now (rw c.if-is_skip.true at c.is_skip.ensures)

pub returns-else-is_skip : goal.returns-else-is_skip
returns-else-is_skip c = no_skip c.args.word.now c.args.tokens.now c.requires (rw c.if-is_skip.false at c.is_skip.ensures)

use Rattle.loop_lines.proofs.OneLine.{no_reduce_sign}
use Rattle.loop_lines.proofs.forms.fed_line.Goals as goal

pub returns-in_default : goal.returns-in_default
returns-in_default c = no_reduce_sign c.args.word.now c.args.tokens.now c.requires c.in_default.ensures

pub returns : goal.returns
returns c = rw c.in-Some.ensures c.fed.ensures

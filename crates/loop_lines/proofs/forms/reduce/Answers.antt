use Rattle.loop_lines.proofs.OneLine.{no_reduce_name}
use Rattle.loop_lines.proofs.forms.reduce.Goals as goal

pub returns-in_default : goal.returns-in_default
returns-in_default c = no_reduce_name c.args.tokens.now c.in_default.ensures

pub returns-in-Some-eat : goal.returns-in-Some-eat
returns-in-Some-eat c = rw (c.in-Some.ensures, c.in-Some-eat.ensures) c.add.ensures

pub returns-in-None : goal.returns-in-None
returns-in-None c = rw c.in-Some.ensures c.fed_line.ensures

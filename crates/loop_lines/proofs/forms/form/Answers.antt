use Rattle.loop_lines.proofs.OneLine.{no_tokens}
use Rattle.loop_lines.proofs.forms.form.Goals as goal

pub returns-in_default : goal.returns-in_default
returns-in_default c = no_tokens c.args.tokens.now c.in_default.ensures

pub returns-in-Keyword : goal.returns-in-Keyword
returns-in-Keyword c = rw (c.in-Some.ensures, c.in-Keyword.is) c.word_line.ensures

pub returns-in-At : goal.returns-in-At
returns-in-At c = rw (c.in-Some.ensures, c.in-At.is) c.at_line.ensures

pub returns-in-Name : goal.returns-in-Name
returns-in-Name c = rw (c.in-Some.ensures, c.in-Name.is) c.name_line.ensures

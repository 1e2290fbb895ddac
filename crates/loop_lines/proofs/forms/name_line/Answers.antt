use Rattle.loop_lines.proofs.forms.name_line.Goals as goal

pub returns-in-Some : goal.returns-in-Some
returns-in-Some c = rw c.in-Some.ensures c.set.ensures

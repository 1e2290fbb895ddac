use Rattle.loop_grammar.specs.LineForms.{SpellsLine}
use Rattle.loop_lines.proofs.OneLine.{no_start_end}
use Rattle.loop_lines.proofs.forms.no_start.Goals as goal

pub returns-in_ok-name : goal.returns-in_ok-name
returns-in_ok-name c = λ ts d. let e = rw c.if-is_end.true at c.is_end.ensures in rw c.in_ok-name.ensures (SpellsLine.reduce (rw e at d))

pub returns-else-is_end : goal.returns-else-is_end
returns-else-is_end c = λ ts d. no_start_end c.args.word.now c.args.tower c.args.wide ts c.args.rest.now d c.requires (rw c.if-is_end.false at c.is_end.ensures)

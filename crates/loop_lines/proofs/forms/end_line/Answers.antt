use Rattle.loop_grammar.specs.LineForms.{SpellsLine}
use Rattle.loop_lines.proofs.forms.end_line.Goals as goal

pub returns-then-is_end : goal.returns-then-is_end
returns-then-is_end c = let e = rw c.if-is_end.true at c.is_end.ensures in rw e SpellsLine.end

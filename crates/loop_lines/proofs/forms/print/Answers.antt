use Rattle.loop_grammar.specs.LineForms.{SpellsLine}
use Rattle.loop_lines.proofs.OneLine.{no_print_name, no_print_end}
use Rattle.loop_lines.proofs.forms.print.Goals as goal

pub returns-in_default : goal.returns-in_default
returns-in_default c = no_print_name c.args.tokens.now c.in_default.ensures

pub returns-in_ok-name : goal.returns-in_ok-name
returns-in_ok-name c = let e = rw c.if-is_end.true at c.is_end.ensures in rw (c.in-Some.ensures, e, c.in_ok-name.ensures) SpellsLine.print

pub returns-else-is_end : goal.returns-else-is_end
returns-else-is_end c = rw c.in-Some.ensures (no_print_end c.in-Some.word.now c.in-Some.rest.now (rw c.if-is_end.false at c.is_end.ensures))

use Rattle.loop_grammar.specs.LineForms.{SpellsTower}
use Rattle.loop_lines.proofs.tower.count.Goals as goal

pub returns-in_ok-count-in-Some-clause-reads : goal.returns-in_ok-count-in-Some-clause-reads
returns-in_ok-count-in-Some-clause-reads c = rw (c.in-Some.ensures, c.in_ok-count-in-Some.ensures) SpellsTower.count

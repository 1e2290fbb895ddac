use Rattle.std.proofs.Common.{◌∙◌, sym, refl}
use Rattle.loop_grammar.specs.Texts.{too_deep, not_a_line, TokensSay}
use Rattle.loop_lines.proofs.verdict.verdict.Goals as goal

pub returns-then-is_too_deep : goal.returns-then-is_too_deep
returns-then-is_too_deep c = (too_deep, TokensSay.deep (sym c.is_too_deep.ensures ∙ c.if-is_too_deep.true), refl)

pub returns-then-whole : goal.returns-then-whole
returns-then-whole c = rw c.if-whole.true c.whole_line.ensures

pub returns-else-whole : goal.returns-else-whole
returns-else-whole c = (not_a_line, rw c.if-whole.false (TokensSay.stuck (sym c.is_too_deep.ensures ∙ c.if-is_too_deep.false)), refl)

use Rattle.std.proofs.Common.{refl}
use Rattle.loop_grammar.specs.Texts.{too_deep, TokensSay}
use Rattle.loop_lines.proofs.Verdicts.{too_wide_line, fine_line}
use Rattle.loop_lines.proofs.verdict.own_refusal.Goals as goal

pub returns-else-groups_fit : goal.returns-else-groups_fit
returns-else-groups_fit c = λ ts h d. (too_deep, TokensSay.groups h d (rw c.if-groups_fit.false at c.groups_fit.ensures), refl)

pub returns-then-wide : goal.returns-then-wide
returns-then-wide c = λ ts h d. too_wide_line ts c.args.line.now c.args.wide c.args.number c.if-wide.true (rw c.if-groups_fit.true at c.groups_fit.ensures) h d

pub returns-else-wide : goal.returns-else-wide
returns-else-wide c = λ ts h d. fine_line ts c.args.line.now c.args.wide c.if-wide.false (rw c.if-groups_fit.true at c.groups_fit.ensures) h d

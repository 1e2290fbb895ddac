use Rattle.std.proofs.Common.{◌∷◌, rules}
use Rattle.loop_tokens.specs.declared.token.Token.TheVariants as tok
use Rattle.loop_tokens.specs.declared.sign.Sign.TheVariants as sg
use Rattle.loop_grammar.specs.LineForms.{SpellsLine}
use Rattle.loop_lines.specs.Claims.{Tells, WholeExpr, LineOf}
use Rattle.loop_lines.proofs.Steps.{passes, itself}
use Rattle.loop_lines.proofs.OneLine.{no_set_expr}
use Rattle.loop_lines.proofs.forms.set.Goals as goal

pub returns-in_err-expr : goal.returns-in_err-expr
returns-in_err-expr c = passes (Tells (WholeExpr c.args.tokens.now)) (Tells (LineOf (tok.Name c.args.word.now ∷ tok.Sign sg.Assign ∷ c.args.tokens.now))) itself itself c.in_err-expr.field-0.0 c.from_residual.result (no_set_expr c.args.word.now c.args.tokens.now) c.in_err-expr.ensures (search rules)

pub returns : goal.returns
returns c = rw c.in_ok-name.ensures (SpellsLine.set c.in_ok-expr.ensures)

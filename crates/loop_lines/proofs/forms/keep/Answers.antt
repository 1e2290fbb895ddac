use Rattle.std.proofs.Common.{◌∷◌, rules}
use Rattle.loop_tokens.specs.declared.token.Token.TheVariants as tok
use Rattle.loop_tokens.specs.declared.keyword.AtWord.TheVariants as at
use Rattle.loop_grammar.specs.LineForms.{SpellsLine}
use Rattle.loop_lines.specs.Claims.{Tells, WholeExpr, LineOf}
use Rattle.loop_lines.proofs.Steps.{passes, itself}
use Rattle.loop_lines.proofs.OneLine.{no_keep_name, no_keep_expr}
use Rattle.loop_lines.proofs.forms.keep.Goals as goal

pub returns-in_default : goal.returns-in_default
returns-in_default c = no_keep_name c.args.tokens.now c.in_default.ensures

pub returns-in_err-expr : goal.returns-in_err-expr
returns-in_err-expr c = passes (Tells (WholeExpr c.in-Some.rest.now)) (Tells (LineOf (tok.At at.Keep ∷ c.args.tokens.now))) itself itself c.in_err-expr.field-0.0 c.from_residual.result (λ h. rw c.in-Some.ensures (no_keep_expr c.in-Some.word.now c.in-Some.rest.now h)) c.in_err-expr.ensures (search rules)

pub returns : goal.returns
returns c = rw (c.in-Some.ensures, c.in_ok-name.ensures) (SpellsLine.keep c.in_ok-expr.ensures)

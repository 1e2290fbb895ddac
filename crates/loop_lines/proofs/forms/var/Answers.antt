use Rattle.std.proofs.Common.{◌∷◌, rules}
use Rattle.loop_tokens.specs.declared.token.Token.TheVariants as tok
use Rattle.loop_tokens.specs.declared.keyword.Keyword.TheVariants as kw
use Rattle.loop_grammar.specs.LineForms.{SpellsLine}
use Rattle.loop_lines.specs.Claims.{Tells, WholeLiteral, LineOf}
use Rattle.loop_lines.proofs.Steps.{passes, itself}
use Rattle.loop_lines.proofs.OneLine.{no_var_name, no_var_value}
use Rattle.loop_lines.proofs.forms.var.Goals as goal

pub returns-in_default : goal.returns-in_default
returns-in_default c = no_var_name c.args.tokens.now c.in_default.ensures

pub returns-in_err-value : goal.returns-in_err-value
returns-in_err-value c = passes (Tells (WholeLiteral c.in-Some.rest.now)) (Tells (LineOf (tok.Keyword kw.Var ∷ c.args.tokens.now))) itself itself c.in_err-value.field-0.0 c.from_residual.result (λ h. rw c.in-Some.ensures (no_var_value c.in-Some.word.now c.in-Some.rest.now h)) c.in_err-value.ensures (search rules)

pub returns : goal.returns
returns c = rw (c.in-Some.ensures, c.in_ok-name.ensures) (SpellsLine.var c.in_ok-value.ensures)

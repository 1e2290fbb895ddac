use Rattle.std.proofs.Common.{◌∷◌, rules}
use Rattle.loop_tokens.specs.declared.token.Token.TheVariants as tok
use Rattle.loop_tokens.specs.declared.keyword.AtWord.TheVariants as at
use Rattle.loop_grammar.specs.LineForms.{SpellsLine}
use Rattle.loop_lines.specs.Claims.{Tells, WholeLiteral, LineOf}
use Rattle.loop_lines.proofs.Steps.{passes, itself}
use Rattle.loop_lines.proofs.OneLine.{no_init_name, no_init_value}
use Rattle.loop_lines.proofs.forms.init.Goals as goal

pub returns-in_default : goal.returns-in_default
returns-in_default c = no_init_name c.args.tokens.now c.in_default.ensures

pub returns-in_err-value : goal.returns-in_err-value
returns-in_err-value c = passes (Tells (WholeLiteral c.in-Some.rest.now)) (Tells (LineOf (tok.At at.Init ∷ c.args.tokens.now))) itself itself c.in_err-value.field-0.0 c.from_residual.result (λ h. rw c.in-Some.ensures (no_init_value c.in-Some.word.now c.in-Some.rest.now h)) c.in_err-value.ensures (search rules)

pub returns : goal.returns
returns c = rw (c.in-Some.ensures, c.in_ok-name.ensures) (SpellsLine.init c.in_ok-value.ensures)

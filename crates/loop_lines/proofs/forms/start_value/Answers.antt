use Rattle.std.proofs.Common.{◌∷◌, rules}
use Rattle.loop_tokens.specs.declared.token.Token.TheVariants as tok
use Rattle.loop_tokens.specs.declared.keyword.AtWord.TheVariants as at
use Rattle.loop_tokens.specs.declared.sign.Sign.TheVariants as sg
use Rattle.loop_grammar.specs.LineForms.{SpellsLine}
use Rattle.loop_lines.specs.Claims.{Tells, WholeLiteral, LineOf}
use Rattle.loop_lines.proofs.Steps.{passes, itself}
use Rattle.loop_lines.proofs.OneLine.{no_start_value}
use Rattle.loop_lines.proofs.forms.start_value.Goals as goal

pub returns-in_err-value : goal.returns-in_err-value
returns-in_err-value c = λ ts d. passes (Tells (WholeLiteral c.args.rest.now)) (Tells (LineOf (tok.At at.Reduce ∷ tok.Name c.args.word.now ∷ tok.Sign sg.Assign ∷ ts))) itself itself c.in_err-value.field-0.0 c.from_residual.result (no_start_value c.args.word.now c.args.tower c.args.wide ts c.args.rest.now d) c.in_err-value.ensures (search rules)

pub returns : goal.returns
returns c = λ ts d. rw c.in_ok-name.ensures (SpellsLine.reduce_from d c.in_ok-value.ensures)

use Rattle.std.proofs.Common.{◌∷◌, rules}
use Rattle.loop_tokens.specs.declared.token.Token.TheVariants as tok
use Rattle.loop_tokens.specs.declared.keyword.AtWord.TheVariants as at
use Rattle.loop_tokens.specs.declared.sign.Sign.TheVariants as sg
use Rattle.loop_lines.specs.Claims.{Tells, TowerAt, LineOf}
use Rattle.loop_lines.proofs.Steps.{passes, itself, seen}
use Rattle.loop_lines.proofs.OneLine.{no_tower}
use Rattle.loop_lines.proofs.forms.fed.Goals as goal

pub returns-in_err-found : goal.returns-in_err-found
returns-in_err-found c = passes (Tells (TowerAt c.args.tokens.now)) (Tells (LineOf (tok.At at.Reduce ∷ tok.Name c.args.word.now ∷ tok.Sign sg.Assign ∷ c.args.tokens.now))) seen itself c.in_err-found.field-0.0 c.from_residual.result (no_tower c.args.word.now c.args.tokens.now) c.in_err-found.ensures (search rules)

pub returns-in-Some : goal.returns-in-Some
returns-in-Some c = c.start_value.ensures c.args.tokens.now (rw c.in-Some.ensures at c.in_ok-found.ensures)

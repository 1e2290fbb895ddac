use Rattle.std.proofs.Common.{◌∷◌, rules}
use Rattle.loop_tokens.specs.declared.token.Token.TheVariants as tok
use Rattle.loop_tokens.specs.declared.keyword.Keyword.TheVariants as kw
use Rattle.loop_heads.specs.Heads.{HeadsAt}
use Rattle.loop_lines.specs.Claims.{Tells, LineOf}
use Rattle.loop_lines.proofs.Steps.{passes_each, pair, itself}
use Rattle.loop_lines.proofs.OneLine.{no_for_heads, for_spelled}
use Rattle.loop_lines.proofs.forms.for_line.Goals as goal

pub returns-in_err-heads : goal.returns-in_err-heads
returns-in_err-heads c = passes_each (HeadsAt c.args.tokens.now) (Tells (LineOf (tok.Keyword kw.For ∷ c.args.tokens.now))) pair itself c.in_err-heads.field-0.0 c.from_residual.result (no_for_heads c.args.tokens.now) c.in_err-heads.ensures.only (search rules)

pub returns : goal.returns
returns c = for_spelled c.in_ok-heads.ensures.spelled

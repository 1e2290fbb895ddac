use Rattle.std.proofs.Common.{◌∷◌, rules}
use Rattle.loop_tokens.specs.declared.token.Token.TheVariants as tok
use Rattle.loop_lines.specs.Claims.{Tells, PatternUpTo}
use Rattle.loop_heads.specs.Claims.{PatternAt}
use Rattle.loop_lines.proofs.Steps.{passes_each, seen_two}
use Rattle.loop_lines.proofs.OneLine.{no_sign}
use Rattle.loop_lines.proofs.parts.names_up_to.Goals as goal

pub returns-in_err-names : goal.returns-in_err-names
returns-in_err-names c = passes_each (PatternAt c.args.tokens.now) (Tells (PatternUpTo c.args.sign c.args.tokens.now)) seen_two seen_two c.in_err-names.field-0.0 c.from_residual.result (λ none p d. none (p.0, tok.Sign c.args.sign ∷ p.1) d) c.in_err-names.ensures.only (search rules)

pub returns-in-None : goal.returns-in-None
returns-in-None c = no_sign c.args.sign c.in_ok-names.names c.args.tokens.now c.in_ok-names.rest.now c.in_ok-names.ensures.spelled c.in-None.ensures

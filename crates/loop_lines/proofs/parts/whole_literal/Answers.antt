use Rattle.std.proofs.Common.{[], rules}
use Rattle.loop_lines.specs.Claims.{Tells, WholeLiteral}
use Rattle.loop_heads.specs.Claims.{LiteralAt}
use Rattle.loop_lines.proofs.Steps.{passes_each, itself, seen}
use Rattle.loop_lines.proofs.parts.whole_literal.Goals as goal

pub returns-in_err-value : goal.returns-in_err-value
returns-in_err-value c = passes_each (LiteralAt c.args.tokens.now) (Tells (WholeLiteral c.args.tokens.now)) seen itself c.in_err-value.field-0.0 c.from_residual.result (λ none p d. none (p.0, p.1, []) d) c.in_err-value.ensures.only (search rules)

use Rattle.std.proofs.Common.{rules}
use Rattle.loop_tokens.specs.declared.sign.Sign.TheVariants as sg
use Rattle.loop_lines.specs.Claims.{Tells, ExprUpTo}
use Rattle.loop_lines.proofs.Steps.{passes, seen}
use Rattle.loop_lines.proofs.tower.key.Goals as goal

pub returns-in_err-expr-clause-reads : goal.returns-in_err-expr-clause-reads
returns-in_err-expr-clause-reads c = passes (Tells (ExprUpTo sg.Comma c.args.tokens.now)) (Tells (ExprUpTo sg.Comma c.args.tokens.now)) seen seen c.in_err-expr.field-0.0 c.from_residual.result (λ none. none) c.in_err-expr.ensures.reads (search rules)

pub returns-clause-reads : goal.returns-clause-reads
returns-clause-reads c = rw c.in_ok-key.ensures c.in_ok-expr.ensures.reads

use Rattle.std.proofs.Common.{rules}
use Rattle.loop_lines.specs.Claims.{Tells, TowerAt}
use Rattle.loop_lines.proofs.Steps.{passes, seen}
use Rattle.loop_lines.proofs.tower.read_tower.Goals as goal

pub returns-in_err-found : goal.returns-in_err-found
returns-in_err-found c = passes (Tells (TowerAt c.args.tokens.now)) (Tells (TowerAt c.args.tokens.now)) seen seen c.in_err-found.field-0.0 c.from_residual.result (λ none. none) c.in_err-found.ensures.reads (search rules)

pub returns : goal.returns
returns c = rw c.into_inner.ensures c.in_ok-found.ensures.reads

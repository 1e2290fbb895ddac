use Rattle.std.proofs.Common.{rules}
use Rattle.loop_exprs.proofs.Steps.{seen}
use Rattle.loop_exprs.proofs.Unique.{front_given, gave_err, no_front, not_ended, spelled}
use Rattle.loop_exprs.proofs.read.read_front.Goals as goal

pub returns-in_err-found-clause-only : goal.returns-in_err-found-clause-only
returns-in_err-found-clause-only c = gave_err seen seen c.in_err-found.field-0.0 c.from_residual.result c.args.tokens.now c.in_err-found.ensures.reads (search rules)

pub returns-then-may_end-clause-spelled : goal.returns-then-may_end-clause-spelled
returns-then-may_end-clause-spelled c = rw c.into_inner.ensures (spelled c.in_ok-found.ensures.reads)

pub returns-then-may_end-clause-only : goal.returns-then-may_end-clause-only
returns-then-may_end-clause-only c = λ x wide rest f. rw c.into_inner.ensures (front_given f c.in_ok-found.ensures.reads)

pub returns-else-may_end-clause-only : goal.returns-else-may_end-clause-only
returns-else-may_end-clause-only c = λ x wide rest f. no_front f c.in_ok-found.ensures.reads (not_ended c.may_end.result _ c.may_end.ensures c.if-may_end.false)

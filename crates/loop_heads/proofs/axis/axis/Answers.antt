use Rattle.std.proofs.Common.{rules}
use Rattle.loop_grammar.specs.LineForms.{SpellsRange, SpellsAxis as s}
use Rattle.loop_heads.specs.Heads.{Ended}
use Rattle.loop_heads.proofs.Steps.{failed, seen}
use Rattle.loop_heads.proofs.Axes.{steps_range, steps_is}
use Rattle.loop_heads.proofs.axis.axis.Goals as goal

pub returns-in-Some-clause-spelled : goal.returns-in-Some-clause-spelled
returns-in-Some-clause-spelled c = rw c.in-Some.ensures c.column.ensures.spelled

pub returns-in-Some-clause-only : goal.returns-in-Some-clause-only
returns-in-Some-clause-only c = rw c.in-Some.ensures c.column.ensures.only

pub returns-in_err-steps-in-None-clause-only : goal.returns-in_err-steps-in-None-clause-only
returns-in_err-steps-in-None-clause-only c =
    let ts = c.args.tokens.now in
    failed (Ended SpellsRange ts) (Ended s ts) seen seen c.in_err-steps-in-None.field-0.0 c.from_residual.result (steps_range ts c.in-None.ensures) c.in_err-steps-in-None.ensures.only (search rules)

pub returns-in_ok-steps-in-None-clause-spelled : goal.returns-in_ok-steps-in-None-clause-spelled
returns-in_ok-steps-in-None-clause-spelled c = s.steps c.in_ok-steps-in-None.ensures.spelled

pub returns-in_ok-steps-in-None-clause-only : goal.returns-in_ok-steps-in-None-clause-only
returns-in_ok-steps-in-None-clause-only c =
    steps_is c.args.tokens.now (c.in_ok-steps-in-None.steps, c.in_ok-steps-in-None.wide, c.in_ok-steps-in-None.rest.now) c.in-None.ensures c.in_ok-steps-in-None.ensures.only

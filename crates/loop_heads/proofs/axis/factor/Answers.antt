use Rattle.std.proofs.Common.{rules}
use Rattle.loop_grammar.specs.LineForms.{SpellsAxis, SpellsFactor as s}
use Rattle.loop_heads.specs.Heads.{Ended, Between}
use Rattle.loop_heads.proofs.Steps.{failed, ok_on, seen}
use Rattle.loop_heads.proofs.Axes.{zip_axes, zip_is, zip_spelled, plain_axis}
use Rattle.loop_heads.proofs.axis.factor.Goals as goal

pub returns-in_err-axes-in-Some-clause-only : goal.returns-in_err-axes-in-Some-clause-only
returns-in_err-axes-in-Some-clause-only c =
    let us = c.in-Some.rest.now in
    failed (Between SpellsAxis us) (Ended s c.args.tokens.now) seen seen c.in_err-axes-in-Some.field-0.0 c.from_residual.result
    (zip_axes c.args.tokens.now us c.in-Some.ensures) c.in_err-axes-in-Some.ensures.only (search rules)

pub returns-in_ok-axes-in-Some-clause-spelled : goal.returns-in_ok-axes-in-Some-clause-spelled
returns-in_ok-axes-in-Some-clause-spelled c =
    zip_spelled c.args.tokens.now c.in-Some.rest.now (c.in_ok-axes-in-Some.axes, c.in_ok-axes-in-Some.wide, c.in_ok-axes-in-Some.rest.now) c.in-Some.ensures c.in_ok-axes-in-Some.ensures.spelled

pub returns-in_ok-axes-in-Some-clause-only : goal.returns-in_ok-axes-in-Some-clause-only
returns-in_ok-axes-in-Some-clause-only c =
    zip_is c.args.tokens.now c.in-Some.rest.now (c.in_ok-axes-in-Some.axes, c.in_ok-axes-in-Some.wide, c.in_ok-axes-in-Some.rest.now) c.in-Some.ensures c.in_ok-axes-in-Some.ensures.only

pub returns-in-None-clause-spelled : goal.returns-in-None-clause-spelled
returns-in-None-clause-spelled c =
    ok_on (λ p. SpellsAxis p.0 p.1 c.args.tokens.now p.2.now) (λ p. s p.0 p.1 c.args.tokens.now p.2.now) c.axis.result (λ p h. s.plain h) c.axis.ensures.spelled

pub returns-in-None-clause-only : goal.returns-in-None-clause-only
returns-in-None-clause-only c = λ z q. c.axis.ensures.only z (plain_axis c.args.tokens.now c.in-None.ensures z q)

use Rattle.std.proofs.Common.{rules}
use Rattle.loop_grammar.specs.LineForms.{SpellsFactor}
use Rattle.loop_heads.specs.Heads.{Ended, Between, SpellsFirst}
use Rattle.loop_heads.proofs.Steps.{failed, seen}
use Rattle.loop_heads.proofs.Axes.{product_factors, product_is, product_spelled, alone_factor, alone_is, alone_spelled, one_axis_of}
use Rattle.loop_heads.proofs.axis.first_head.Goals as goal

pub returns-in_err-axes-in-Some-clause-only : goal.returns-in_err-axes-in-Some-clause-only
returns-in_err-axes-in-Some-clause-only c =
    let us = c.in-Some.rest.now in
    failed (Between SpellsFactor us) (Ended SpellsFirst c.args.tokens.now) seen seen c.in_err-axes-in-Some.field-0.0 c.from_residual.result
    (product_factors c.args.tokens.now us c.in-Some.ensures) c.in_err-axes-in-Some.ensures.only (search rules)

pub returns-in_ok-axes-in-Some-clause-spelled : goal.returns-in_ok-axes-in-Some-clause-spelled
returns-in_ok-axes-in-Some-clause-spelled c =
    product_spelled c.args.tokens.now c.in-Some.rest.now (c.in_ok-axes-in-Some.axes, c.in_ok-axes-in-Some.wide, c.in_ok-axes-in-Some.rest.now) c.in-Some.ensures c.in_ok-axes-in-Some.ensures.spelled

pub returns-in_ok-axes-in-Some-clause-only : goal.returns-in_ok-axes-in-Some-clause-only
returns-in_ok-axes-in-Some-clause-only c =
    product_is c.args.tokens.now c.in-Some.rest.now (c.in_ok-axes-in-Some.axes, c.in_ok-axes-in-Some.wide, c.in_ok-axes-in-Some.rest.now) c.in-Some.ensures c.in_ok-axes-in-Some.ensures.only

pub returns-in_err-axis-in-None-clause-only : goal.returns-in_err-axis-in-None-clause-only
returns-in_err-axis-in-None-clause-only c =
    let ts = c.args.tokens.now in
    failed (Ended SpellsFactor ts) (Ended SpellsFirst ts) seen seen c.in_err-axis-in-None.field-0.0 c.from_residual-in_err-axis-in-None.result
    (alone_factor ts c.in-None.ensures) c.in_err-axis-in-None.ensures.only (search rules)

pub returns-in_ok-push-in-None-clause-spelled : goal.returns-in_ok-push-in-None-clause-spelled
returns-in_ok-push-in-None-clause-spelled c =
    alone_spelled c.args.tokens.now c.push.new.self (c.in_ok-axis-in-None.axis, c.in_ok-axis-in-None.wide, c.in_ok-axis-in-None.rest.now)
    (one_axis_of c.push.new.self c.new-axes.result c.in_ok-axis-in-None.axis c.in_ok-push-in-None.ensures.ok c.new-axes.ensures) c.in_ok-axis-in-None.ensures.spelled

pub returns-in_ok-push-in-None-clause-only : goal.returns-in_ok-push-in-None-clause-only
returns-in_ok-push-in-None-clause-only c =
    alone_is c.args.tokens.now c.push.new.self (c.in_ok-axis-in-None.axis, c.in_ok-axis-in-None.wide, c.in_ok-axis-in-None.rest.now)
    (one_axis_of c.push.new.self c.new-axes.result c.in_ok-axis-in-None.axis c.in_ok-push-in-None.ensures.ok c.new-axes.ensures) c.in-None.ensures c.in_ok-axis-in-None.ensures.only

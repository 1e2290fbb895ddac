use Rattle.std.proofs.Common.{false, rules}
use Rattle.loop_grammar.specs.LineForms.{SpellsFactor as s}
use Rattle.loop_heads.specs.Heads.{BehindEnd, Between}
use Rattle.loop_heads.proofs.Steps.{failed, seen, seen_of}
use Rattle.loop_heads.proofs.Lists.{between_items, given_between, given_not_several, given_is, between_spelled}
use Rattle.loop_heads.proofs.axis.factors_between.Goals as goal

pub returns-in_default-clause-only : goal.returns-in_default-clause-only
returns-in_default-clause-only c = λ z q. c.in_default.ensures q.inside q.opened

pub returns-in_err-found-clause-only : goal.returns-in_err-found-clause-only
returns-in_err-found-clause-only c =
    let us = c.in-Some.rest.now in
    failed (BehindEnd s c.new.result.items false us) (Between s c.args.tokens.now) seen_of seen c.in_err-found.field-0.0 c.from_residual.result
    (between_items s c.new.result.items c.args.tokens.now us c.new.ensures.items c.in-Some.ensures) c.in_err-found.ensures.only (search rules)

pub returns-in_default-eat-clause-only : goal.returns-in_default-eat-clause-only
returns-in_default-eat-clause-only c = λ z q.
    let g = given_between s c.new.result.items c.args.tokens.now c.in-Some.rest.now c.in_ok-found.found.items c.in_ok-found.wide c.in_ok-found.rest.now c.new.ensures.items c.in-Some.ensures c.in_ok-found.ensures.only z q in
    c.in_default-eat.ensures z.2 g.closed

pub returns-in-Some-several-clause-spelled : goal.returns-in-Some-several-clause-spelled
returns-in-Some-several-clause-spelled c =
    between_spelled s c.new.result.items c.in_ok-found.found.items c.in-Some-several.axes c.in_ok-found.wide c.args.tokens.now c.in-Some.rest.now c.in_ok-found.rest.now c.in-Some-eat.rest.now
    c.new.ensures.items c.in-Some.ensures c.in_ok-found.ensures.spelled c.in-Some-eat.ensures c.in-Some-several.ensures

pub returns-in-Some-several-clause-only : goal.returns-in-Some-several-clause-only
returns-in-Some-several-clause-only c = λ z q.
    let g = given_between s c.new.result.items c.args.tokens.now c.in-Some.rest.now c.in_ok-found.found.items c.in_ok-found.wide c.in_ok-found.rest.now c.new.ensures.items c.in-Some.ensures c.in_ok-found.ensures.only z q in
    given_is c.in_ok-found.found.items c.in-Some-several.axes c.in_ok-found.wide c.in_ok-found.rest.now c.in-Some-eat.rest.now z g c.in-Some-eat.ensures c.in-Some-several.ensures.same

pub returns-in-None-clause-only : goal.returns-in-None-clause-only
returns-in-None-clause-only c = λ z q.
    let g = given_between s c.new.result.items c.args.tokens.now c.in-Some.rest.now c.in_ok-found.found.items c.in_ok-found.wide c.in_ok-found.rest.now c.new.ensures.items c.in-Some.ensures c.in_ok-found.ensures.only z q in
    given_not_several c.in_ok-found.found.items c.in_ok-found.wide c.in_ok-found.rest.now z g c.in-None.ensures

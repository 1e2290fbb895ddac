use Rattle.std.proofs.Common.{Err, rules}
use Rattle.loop_grammar.specs.LineForms.{SpellsRange as s}
use Rattle.loop_heads.specs.Heads.{Ended}
use Rattle.loop_heads.proofs.Steps.{failed, seen}
use Rattle.loop_heads.proofs.Ranges.{FrontAt, front_each, first_front, firsts, second_front, thirds, ends_there, third_front, goes_there}
use Rattle.loop_heads.proofs.range.range.Goals as goal

pub returns-in_err-first-clause-only : goal.returns-in_err-first-clause-only
returns-in_err-first-clause-only c =
    let ts = c.args.tokens.now in
    failed (FrontAt ts) (Ended s ts) seen seen c.in_err-first.field-0.0 c.from_residual.result (first_front ts)
    (front_each seen (Err c.in_err-first.field-0.0) ts c.in_err-first.ensures.only) (search rules)

pub returns-in_default-clause-only : goal.returns-in_default-clause-only
returns-in_default-clause-only c = λ z q.
    let f = firsts c.args.tokens.now c.in_ok-first.first c.in_ok-first.wide c.in_ok-first.rest.now (λ y p. c.in_ok-first.ensures.only y.0 y.1 y.2 p) z q in
    c.in_default.ensures f.rest f.colon

pub returns-in_err-second-clause-only : goal.returns-in_err-second-clause-only
returns-in_err-second-clause-only c =
    let us = c.in-Some.rest.now in
    failed (FrontAt us) (Ended s c.args.tokens.now) seen seen c.in_err-second.field-0.0 c.from_residual-in_err-second.result
    (second_front c.args.tokens.now c.in_ok-first.first c.in_ok-first.wide c.in_ok-first.rest.now us (λ y p. c.in_ok-first.ensures.only y.0 y.1 y.2 p) c.in-Some.ensures)
    (front_each seen (Err c.in_err-second.field-0.0) us c.in_err-second.ensures.only) (search rules)

pub returns-in-None-clause-spelled : goal.returns-in-None-clause-spelled
returns-in-None-clause-spelled c = rw c.either-both.ensures (s.by_one (rw c.in-Some.ensures at c.in_ok-first.ensures.spelled) c.in_ok-second.ensures.spelled)

pub returns-in-None-clause-only : goal.returns-in-None-clause-only
returns-in-None-clause-only c = λ z q. rw c.either-both.ensures
    (ends_there (thirds c.args.tokens.now c.in_ok-first.first c.in_ok-first.wide c.in_ok-first.rest.now c.in-Some.rest.now c.in_ok-second.second c.in_ok-second.also c.in_ok-second.rest.now
    (λ y p. c.in_ok-first.ensures.only y.0 y.1 y.2 p) c.in-Some.ensures (λ y p. c.in_ok-second.ensures.only y.0 y.1 y.2 p) z q) c.in-None.ensures)

pub returns-in_err-last-in-Some-eat-clause-only : goal.returns-in_err-last-in-Some-eat-clause-only
returns-in_err-last-in-Some-eat-clause-only c =
    let vs = c.in-Some-eat.rest.now in
    failed (FrontAt vs) (Ended s c.args.tokens.now) seen seen c.in_err-last-in-Some-eat.field-0.0 c.from_residual-in_err-last-in-Some-eat.result
    (λ z q. third_front vs (thirds c.args.tokens.now c.in_ok-first.first c.in_ok-first.wide c.in_ok-first.rest.now c.in-Some.rest.now c.in_ok-second.second c.in_ok-second.also c.in_ok-second.rest.now
    (λ y p. c.in_ok-first.ensures.only y.0 y.1 y.2 p) c.in-Some.ensures (λ y p. c.in_ok-second.ensures.only y.0 y.1 y.2 p) z q) c.in-Some-eat.ensures)
    (front_each seen (Err c.in_err-last-in-Some-eat.field-0.0) vs c.in_err-last-in-Some-eat.ensures.only) (search rules)

pub returns-in_ok-last-in-Some-eat-clause-spelled : goal.returns-in_ok-last-in-Some-eat-clause-spelled
returns-in_ok-last-in-Some-eat-clause-spelled c = rw (c.either.ensures, c.either-both.ensures)
    (s.by_step (rw c.in-Some.ensures at c.in_ok-first.ensures.spelled) (rw c.in-Some-eat.ensures at c.in_ok-second.ensures.spelled) c.in_ok-last-in-Some-eat.ensures.spelled)

pub returns-in_ok-last-in-Some-eat-clause-only : goal.returns-in_ok-last-in-Some-eat-clause-only
returns-in_ok-last-in-Some-eat-clause-only c = λ z q. rw (c.either.ensures, c.either-both.ensures)
    (goes_there c.in-Some-eat.rest.now c.in_ok-last-in-Some-eat.last c.in_ok-last-in-Some-eat.third c.in_ok-last-in-Some-eat.rest.now
    (thirds c.args.tokens.now c.in_ok-first.first c.in_ok-first.wide c.in_ok-first.rest.now c.in-Some.rest.now c.in_ok-second.second c.in_ok-second.also c.in_ok-second.rest.now
    (λ y p. c.in_ok-first.ensures.only y.0 y.1 y.2 p) c.in-Some.ensures (λ y p. c.in_ok-second.ensures.only y.0 y.1 y.2 p) z q)
    c.in-Some-eat.ensures (λ y p. c.in_ok-last-in-Some-eat.ensures.only y.0 y.1 y.2 p))

use Rattle.std.proofs.Common.{rules}
use Rattle.loop_grammar.specs.LineForms.{SpellsFactor as s}
use Rattle.loop_heads.specs.Heads.{Ended, Behind, BehindEnd}
use Rattle.loop_heads.proofs.Steps.{failed, ok_on, seen, seen_of}
use Rattle.loop_heads.proofs.Lists.{next_item, last_item, last_behind, more_items, more_behind}
use Rattle.loop_heads.proofs.axis.+factors.Goals as goal

pub returns-in_err-next-clause-only : goal.returns-in_err-next-clause-only
returns-in_err-next-clause-only t c =
    let ts = c.args.tokens.now in
    failed (Ended s ts) (BehindEnd s c.args.found.items c.args.wide ts) seen seen_of c.in_err-next.field-0.0 c.from_residual.result
    (next_item s c.args.found.items c.args.wide ts) c.in_err-next.ensures.only (search rules)

pub returns-in-Some-clause-spelled : goal.returns-in-Some-clause-spelled
returns-in-Some-clause-spelled t c =
    let found = c.args.found.items in
    ok_on (λ p. Behind s c.push.new.self.items c.either-both.result c.in-Some.rest.now (seen_of p)) (λ p. Behind s found c.args.wide c.args.tokens.now (seen_of p)) c.factors.result
    (λ p h. more_behind s found c.args.wide c.args.tokens.now c.in_ok-next.next c.in_ok-next.also c.in_ok-next.rest.now c.in-Some.rest.now c.in_ok-next.ensures.spelled c.in-Some.ensures (seen_of p)
    (rw (c.in_ok-push.ensures.items, c.either-both.ensures) at h)) c.factors.ensures.spelled

pub returns-in-Some-clause-only : goal.returns-in-Some-clause-only
returns-in-Some-clause-only t c = λ z q. c.factors.ensures.only z
    (rw (c.in_ok-push.ensures.items, c.either-both.ensures) (more_items s c.args.found.items c.args.wide c.args.tokens.now c.in_ok-next.next c.in_ok-next.also c.in_ok-next.rest.now c.in-Some.rest.now
    c.in_ok-next.ensures.only c.in-Some.ensures z q))

pub returns-in-None-clause-spelled : goal.returns-in-None-clause-spelled
returns-in-None-clause-spelled t c = rw (c.in_ok-push.ensures.items, c.either-both.ensures)
    (last_behind s c.args.found.items c.args.wide c.args.tokens.now c.in_ok-next.next c.in_ok-next.also c.in_ok-next.rest.now c.in_ok-next.ensures.spelled)

pub returns-in-None-clause-only : goal.returns-in-None-clause-only
returns-in-None-clause-only t c = rw (c.in_ok-push.ensures.items, c.either-both.ensures)
    (last_item s c.args.found.items c.args.wide c.args.tokens.now c.in_ok-next.next c.in_ok-next.also c.in_ok-next.rest.now c.in_ok-next.ensures.only c.in-None.ensures)

use Rattle.std.proofs.Common.{rules}
use Rattle.loop_heads.specs.Heads.{Ended, SpellsFurther, InnerBehind}
use Rattle.loop_heads.proofs.Steps.{failed, ok_on, seen, pair_of}
use Rattle.loop_heads.proofs.Further.{next_further, rest_further, further_behind, none_behind, empty_of, filled_of}
use Rattle.loop_heads.proofs.heads.+all_further.Goals as goal

pub returns-then-is_empty-clause-spelled : goal.returns-then-is_empty-clause-spelled
returns-then-is_empty-clause-spelled t c = none_behind c.args.found.items c.args.wide c.args.tokens.now (empty_of c.args.tokens.now c.is_empty.result c.is_empty.ensures c.if-is_empty.true)

pub returns-in_err-next-clause-only : goal.returns-in_err-next-clause-only
returns-in_err-next-clause-only t c =
    let ts = c.args.tokens.now in
    failed (Ended SpellsFurther ts) (InnerBehind c.args.found.items c.args.wide ts) seen pair_of c.in_err-next.field-0.0 c.from_residual.result
    (next_further c.args.found.items c.args.wide ts (filled_of ts c.is_empty.result c.is_empty.ensures c.if-is_empty.false)) c.in_err-next.ensures.only (search rules)

pub returns-clause-spelled : goal.returns-clause-spelled
returns-clause-spelled t c =
    let found = c.args.found.items in
    ok_on (λ p. InnerBehind c.push.new.self.items c.either-both.result c.in_ok-next.rest.now (p.0.items, p.1)) (λ p. InnerBehind found c.args.wide c.args.tokens.now (p.0.items, p.1)) c.all_further.result
    (λ p h. further_behind found c.args.wide c.args.tokens.now (c.in_ok-next.next, c.in_ok-next.also, c.in_ok-next.rest.now) c.in_ok-next.ensures.spelled (p.0.items, p.1)
    (rw (c.in_ok-push.ensures.items, c.either-both.ensures) at h)) c.all_further.ensures.spelled

pub returns-clause-only : goal.returns-clause-only
returns-clause-only t c = λ z q. c.all_further.ensures.only z
    (rw (c.in_ok-push.ensures.items, c.either-both.ensures) (rest_further c.args.found.items c.args.wide c.args.tokens.now (c.in_ok-next.next, c.in_ok-next.also, c.in_ok-next.rest.now)
    (filled_of c.args.tokens.now c.is_empty.result c.is_empty.ensures c.if-is_empty.false) c.in_ok-next.ensures.only z q))

use Rattle.std.proofs.Common.{◌≤◌, length, false, arith, rules}
use Rattle.loop_heads.specs.Claims.{PatternAt}
use Rattle.loop_heads.specs.Heads.{Ended, SpellsFirst, InnerBehind, HeadsAt}
use Rattle.loop_heads.proofs.Steps.{failed, seen, seen_two, pair_of, pair}
use Rattle.loop_heads.proofs.AllHeads.{heads_pattern, heads_in, heads_first, after_first, heads_further, heads_few, heads_are, heads_spelled}
use Rattle.loop_heads.proofs.heads.read_heads.Goals as goal

pub returns-in_err-names-clause-only : goal.returns-in_err-names-clause-only
returns-in_err-names-clause-only c =
    let ts = c.args.tokens.now in
    failed (PatternAt ts) (HeadsAt ts) seen_two pair c.in_err-names.field-0.0 c.from_residual.result (heads_pattern ts) c.in_err-names.ensures.only (search rules)

pub returns-in_default-clause-only : goal.returns-in_default-clause-only
returns-in_default-clause-only c = heads_in c.args.tokens.now c.in_ok-names.names c.in_ok-names.rest.now c.in_ok-names.ensures.only c.in_default.ensures

pub returns-in_err-first-clause-only : goal.returns-in_err-first-clause-only
returns-in_err-first-clause-only c =
    let us = c.in-Some.rest.now in
    failed (Ended SpellsFirst us) (HeadsAt c.args.tokens.now) seen pair c.in_err-first.field-0.0 c.from_residual-in_err-first.result
    (heads_first c.args.tokens.now c.in_ok-names.names c.in_ok-names.rest.now us c.in_ok-names.ensures.only c.in-Some.ensures) c.in_err-first.ensures.only (search rules)

pub returns-in_err-inner-clause-only : goal.returns-in_err-inner-clause-only
returns-in_err-inner-clause-only c =
    failed (InnerBehind c.new.result.items false c.in_ok-first.rest.now) (HeadsAt c.args.tokens.now) pair_of pair c.in_err-inner.field-0.0 c.from_residual-in_err-inner.result
    (λ z q. heads_further c.new.result.items c.in_ok-names.names (c.in_ok-first.first, c.in_ok-first.wide, c.in_ok-first.rest.now) z c.new.ensures.items
    (after_first c.args.tokens.now c.in_ok-names.names c.in_ok-names.rest.now c.in-Some.rest.now (c.in_ok-first.first, c.in_ok-first.wide, c.in_ok-first.rest.now)
    c.in_ok-names.ensures.only c.in-Some.ensures c.in_ok-first.ensures.only z q)) c.in_err-inner.ensures.only (search rules)

pub returns-then-len-gt-FURTHER-clause-only : goal.returns-then-len-gt-FURTHER-clause-only
returns-then-len-gt-FURTHER-clause-only c = λ z q.
    let few : length c.in_ok-inner.inner.items ≤ 3 = heads_few c.new.result.items c.in_ok-names.names (c.in_ok-first.first, c.in_ok-first.wide, c.in_ok-first.rest.now) c.in_ok-inner.inner.items c.in_ok-inner.also z c.new.ensures.items
    c.in_ok-inner.ensures.only
    (after_first c.args.tokens.now c.in_ok-names.names c.in_ok-names.rest.now c.in-Some.rest.now (c.in_ok-first.first, c.in_ok-first.wide, c.in_ok-first.rest.now)
    c.in_ok-names.ensures.only c.in-Some.ensures c.in_ok-first.ensures.only z q) in
    absurd (omega (arith, c.len.ensures, c.if-len-gt-FURTHER.true))

pub returns-clause-spelled : goal.returns-clause-spelled
returns-clause-spelled c = rw (c.from_vec.ensures, c.either.ensures)
    (heads_spelled c.new.result.items c.in_ok-inner.inner.items c.in_ok-names.names (c.in_ok-first.first, c.in_ok-first.wide, c.in_ok-first.rest.now) c.in_ok-inner.also
    c.args.tokens.now c.in_ok-names.rest.now c.in-Some.rest.now c.new.ensures.items c.in_ok-names.ensures.spelled c.in-Some.ensures c.in_ok-first.ensures.spelled c.in_ok-inner.ensures.spelled
    (omega (arith, c.len.ensures, c.if-len-gt-FURTHER.false)))

pub returns-clause-only : goal.returns-clause-only
returns-clause-only c = λ z q. rw (c.from_vec.ensures, c.either.ensures)
    (heads_are c.new.result.items c.in_ok-names.names (c.in_ok-first.first, c.in_ok-first.wide, c.in_ok-first.rest.now) c.in_ok-inner.inner.items c.in_ok-inner.also z c.new.ensures.items
    c.in_ok-inner.ensures.only
    (after_first c.args.tokens.now c.in_ok-names.names c.in_ok-names.rest.now c.in-Some.rest.now (c.in_ok-first.first, c.in_ok-first.wide, c.in_ok-first.rest.now)
    c.in_ok-names.ensures.only c.in-Some.ensures c.in_ok-first.ensures.only z q))

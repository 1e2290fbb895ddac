use Rattle.std.proofs.Common.{◌∷◌, rules}
use Rattle.loop_tokens.specs.declared.token.Token.TheVariants as tok
use Rattle.loop_tokens.specs.declared.sign.Sign.TheVariants as sg
use Rattle.loop_heads.specs.Claims.{NamesEnd, PatternAt}
use Rattle.loop_heads.proofs.Steps.{failed, seen_two, seen_two_of}
use Rattle.loop_heads.proofs.Patterns.{tuple_names, given, not_several, several_is, tuple_spelled}
use Rattle.loop_heads.proofs.pattern.tuple.Goals as goal

pub returns-in_err-found-clause-only : goal.returns-in_err-found-clause-only
returns-in_err-found-clause-only c =
    let ts = c.args.tokens.now in
    failed (NamesEnd c.new.result.items ts) (PatternAt (tok.Sign sg.Open ∷ ts)) seen_two_of seen_two c.in_err-found.field-0.0 c.from_residual.result
    (tuple_names c.new.result.items ts c.new.ensures.items) c.in_err-found.ensures.only (search rules)

pub returns-in_default-clause-only : goal.returns-in_default-clause-only
returns-in_default-clause-only c = λ x q.
    c.in_default.ensures x.1 (given seen_two_of (c.in_ok-found.found, c.in_ok-found.rest) c.new.result.items c.args.tokens.now c.new.ensures.items c.in_ok-found.ensures.only x q).closed

pub returns-in-Some-several-clause-spelled : goal.returns-in-Some-several-clause-spelled
returns-in-Some-several-clause-spelled c =
    tuple_spelled c.new.result.items c.in_ok-found.found.items c.in-Some-several.names c.args.tokens.now c.in_ok-found.rest.now c.in-Some.rest.now c.new.ensures.items c.in_ok-found.ensures.spelled c.in-Some.ensures c.in-Some-several.ensures

pub returns-in-Some-several-clause-only : goal.returns-in-Some-several-clause-only
returns-in-Some-several-clause-only c = λ x q.
    several_is c.in_ok-found.found.items c.in-Some-several.names c.in_ok-found.rest.now c.in-Some.rest.now x
    (given seen_two_of (c.in_ok-found.found, c.in_ok-found.rest) c.new.result.items c.args.tokens.now c.new.ensures.items c.in_ok-found.ensures.only x q) c.in-Some.ensures c.in-Some-several.ensures.same

pub returns-in-None-clause-only : goal.returns-in-None-clause-only
returns-in-None-clause-only c = λ x q.
    not_several c.in_ok-found.found.items c.in_ok-found.rest.now x
    (given seen_two_of (c.in_ok-found.found, c.in_ok-found.rest) c.new.result.items c.args.tokens.now c.new.ensures.items c.in_ok-found.ensures.only x q) c.in-None.ensures

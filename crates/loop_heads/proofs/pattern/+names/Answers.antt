use Rattle.loop_heads.specs.Claims.{NamesBehind}
use Rattle.loop_heads.proofs.Steps.{ok_on}
use Rattle.loop_heads.proofs.Patterns.{name_last, more_names, name_behind}
use Rattle.loop_heads.proofs.pattern.+names.Goals as goal

pub returns-in-Some-eat-clause-spelled : goal.returns-in-Some-eat-clause-spelled
returns-in-Some-eat-clause-spelled t c =
    let found = c.args.found.items in
    ok_on (λ p. NamesBehind c.push.new.self.items c.in-Some-eat.rest.now p.0.items p.1.now) (λ p. NamesBehind found c.args.tokens.now p.0.items p.1.now) c.names.result
    (λ p h. name_behind found c.in-Some.first.now c.args.tokens.now c.in-Some.rest.now c.in-Some-eat.rest.now _ _ c.in-Some.ensures c.in-Some-eat.ensures (rw (c.in_ok-push.ensures.items, c.in_ok-name.ensures) at h)) c.names.ensures.spelled

pub returns-in-Some-eat-clause-only : goal.returns-in-Some-eat-clause-only
returns-in-Some-eat-clause-only t c = λ x q. c.names.ensures.only x
    (rw (c.in_ok-push.ensures.items, c.in_ok-name.ensures) (more_names c.args.found.items c.in-Some.first.now c.args.tokens.now c.in-Some.rest.now c.in-Some-eat.rest.now c.in-Some.ensures c.in-Some-eat.ensures x q))

pub returns-in-None-clause-spelled : goal.returns-in-None-clause-spelled
returns-in-None-clause-spelled t c =
    rw (c.in_ok-push.ensures.items, c.in_ok-name.ensures) (name_last c.args.found.items c.in-Some.first.now c.args.tokens.now c.in-Some.rest.now c.in-Some.ensures)

use Rattle.std.proofs.Common.{rules, ap, sym, ◌≡◌, ◌≤◌, ◌<◌, ◌-◌, ◌∙◌, subst}
use Rattle.fold_steal.specs.Deals.{longest, halve_first}
use Rattle.fold_steal.proofs.RoundSteps.{rounds_done, rounds_next}
use Rattle.fold_steal.proofs.dealing.halve_longest.Goals as goal

pub returns-then-len-least : goal.returns-then-len-least
returns-then-len-least c =
    let len : c.longest_of-len.result ≡ longest c.loop.parts.items = c.longest_of-len.ensures ∙ ap longest c.as_slice.ensures.value in
    rounds_done (c.args.rounds - c.loop.counter) c.args.least c.loop.parts.items (subst (λ n. n ≤ c.args.least) len c.if-len-least.true) ∙ c.loop.invariant

pub loop-preserved : goal.loop-preserved
loop-preserved c =
    let len : c.longest_of-len.result ≡ longest c.loop.parts.items = c.longest_of-len.ensures ∙ ap longest c.as_slice.ensures.value in
    rounds_next c.args.rounds c.loop.counter c.args.least c.loop.parts.items c.halve_one.new.parts.items (search rules) (subst (λ n. c.args.least < n) len c.if-len-least.false)
    (c.in_ok-halve_one.ensures ∙ ap (λ n. halve_first n c.loop.parts.items) len)
    ∙ c.loop.invariant

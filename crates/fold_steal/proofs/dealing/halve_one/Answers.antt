use Rattle.std.proofs.Common.{rules, sym, ◌∙◌}
use Rattle.fold_steal.proofs.RoundSteps.{none_more, none_halved, halved_here}
use Rattle.fold_steal.proofs.dealing.halve_one.Goals as goal

pub returns-in-Some : goal.returns-in-Some
returns-in-Some c =
    halved_here c.args.len c.loop-k.k c.args.parts.now.items c.loop-k.parts.items c.insert.new.self.items c.index.result.now c.in-Some.left c.in-Some.right c.loop-k.invariant.0 (search rules) c.index.ensures
    (sym c.len.ensures.value ∙ c.if-len.true) c.loop-k.invariant.1 c.in-Some.ensures'.cut_left c.in-Some.ensures'.cut_right (search rules)

pub loop-k-preserved : goal.loop-k-preserved
loop-k-preserved c = (
  c.loop-k.invariant.0,
  none_more c.args.len c.loop-k.k c.args.parts.now.items c.loop-k.parts.items c.index.result.now c.loop-k.invariant.0 (search rules) c.index.ensures (λ e. c.if-len.false (c.len.ensures.value ∙ e)) c.loop-k.invariant.1,
)

pub returns : goal.returns
returns c = c.loop-k.invariant.0 ∙ none_halved c.args.len c.loop-k.k c.args.parts.now.items (search rules) c.loop-k.invariant.1

use Rattle.std.proofs.Common.{sym, subst}
use Rattle.chain_stages.specs.declared.stages.Doing.{Doing}
use Rattle.chain_stages.specs.Stages.{mapped}
use Rattle.transducer_kit.specs.Steps.{Leaves}
use Rattle.transducer_kit.proofs.actions.do_map.Goals as goal

pub returns-in-Inner-clause-leaves : goal.returns-in-Inner-clause-leaves
returns-in-Inner-clause-leaves c =
    subst (λ (action : Doing). Leaves (mapped c.args.line action c.args.element.now) c.set_range.result c.set_range.new.element) (sym c.in-Inner.is) (c.set_range.ensures.leaves c.in-Inner.name)

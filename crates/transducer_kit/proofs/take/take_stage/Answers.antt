use Rattle.std.proofs.Common.{◌≡◌, Some, IfOk, sym, subst}
use Rattle.chain_stages.specs.declared.element.Element.{Element}
use Rattle.chain_stages.specs.declared.stages.Stage.{Stage}
use Rattle.chain_stages.specs.Cats.{is_inner}
use Rattle.transducer_kit.specs.Enters.{Enters}
use Rattle.transducer_kit.proofs.take.take_stage.Goals as goal

pub returns-in-Map-clause-enters : goal.returns-in-Map-clause-enters
returns-in-Map-clause-enters c =
    subst (λ (stage : Stage). IfOk c.take_map.result (λ took. (e : Element) → took.0 ≡ Some e → Enters (is_inner stage) e)) (sym c.in-Map.is) c.take_map.ensures.enters

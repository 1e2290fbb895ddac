-- What chains of stages that ask nothing make of lists of any elements, worked by hand.
-- Source: this project, after Transducers.jl.
use Rattle.std.specs.Prelude.{◌≡◌, [], ◌∷◌}
use Rattle.chain_stages.specs.declared.element.Element.{Element}
use Rattle.chain_stages.specs.declared.stages.Stage.TheVariants.{Filter, ReduceIf}
use Rattle.chain_stages.specs.declared.stages.Test.TheVariants.{Always, Never}
use Rattle.chain_stages.specs.declared.step_end.StepEnd.TheVariants.{Going, Ended}
use Rattle.chain_stages.specs.Chains.{chain_output}
use Rattle.chain_stages.specs.Stages.{nothing, output}

abbrev pub EndsAfterFirst : Type 0
EndsAfterFirst = (a b : Element) →
    chain_output (ReduceIf 2 Always ∷ []) (output (a ∷ b ∷ []) Going) ≡ output (a ∷ []) (Ended 2)

abbrev pub LaterEndStands : Type 0
LaterEndStands = (a b : Element) →
    chain_output (ReduceIf 2 Always ∷ ReduceIf 3 Always ∷ []) (output (a ∷ b ∷ []) Going)
    ≡ output (a ∷ []) (Ended 3)

abbrev pub EndStays : Type 0
EndStays = (a b : Element) →
    chain_output (Filter 3 Never ∷ ReduceIf 4 Always ∷ []) (output (a ∷ b ∷ []) (Ended 2)) ≡ nothing (Ended 2)

abbrev pub NothingEnds : Type 0
NothingEnds = chain_output (ReduceIf 2 Always ∷ []) (nothing Going) ≡ nothing Going

-- Laws of chains over lists of elements.
-- Source: this project.
use Rattle.std.specs.Prelude.{None, ◌≡◌, ◌≤◌, false, true, List, ◌∷◌, ◌++◌, length}
use Rattle.loop_values.specs.Bindings.{Bindings}
use Rattle.chain_stages.specs.declared.step_end.StepEnd.{StepEnd}
use Rattle.chain_stages.specs.declared.step_end.StepEnd.TheVariants.{Going}
use Rattle.chain_stages.specs.declared.element.Element.{Element}
use Rattle.chain_stages.specs.declared.stages.Stage.{Stage}
use Rattle.chain_stages.specs.Cats.{CatsFollowNames, cats_follow}
use Rattle.chain_stages.specs.Chains.{chain_output, followed_by, one_by_one}
use Rattle.chain_stages.specs.Elements.{beginning, emitted_by}
use Rattle.chain_stages.specs.Reduces.{all_reduces}
use Rattle.chain_stages.specs.Stages.{alone, nothing, output, through}

-- what a chain makes of two lists one after another
abbrev pub TwoLists : Type 0
TwoLists = (stages : List Stage) (xs ys : List Element) (end : StepEnd) →
    chain_output stages (output (xs ++ ys) end)
    ≡ followed_by (chain_output stages (output xs Going)) (chain_output stages (output ys end))

-- the end that came in stands after the last element that is left, where none came before it
abbrev pub EndStandsLast : Type 0
EndStandsLast = (stages : List Stage) (xs : List Element) (end : StepEnd) →
    chain_output stages (output xs end) ≡ followed_by (chain_output stages (output xs Going)) (nothing end)

-- what a chain makes of one element
abbrev pub OneElement : Type 0
OneElement = (stage : Stage) (stages : List Stage) (e : Element) →
    chain_output (stage ∷ stages) (alone e) ≡ chain_output stages (through stage e)

-- two chains one after the other
abbrev pub ChainsInTurn : Type 0
ChainsInTurn = (front back : List Stage) (e : Element) →
    chain_output (front ++ back) (alone e) ≡ chain_output back (chain_output front (alone e))

-- element by element it comes to the same
abbrev pub OneByOne : Type 0
OneByOne = (stages : List Stage) (es : List Element) (end : StepEnd) → chain_output stages (output es end) ≡ one_by_one stages es end

-- of one item at most 64,000,000 pairs leave a chain whose stages hold at most 64 `@reduce` lines
abbrev pub FewLeave : Type 0
FewLeave = (stages : List Stage) (env : Bindings) → cats_follow false stages ≡ true → all_reduces stages ≤ 64 →
    length (emitted_by (chain_output stages (alone (beginning env))).elements) ≤ 64000000

-- where each `Cat` comes right after the stage that sets the inner range of its name, elements may go through the chain
abbrev pub NamesFollow : Type 0
NamesFollow = (stages : List Stage) → CatsFollowNames None stages → cats_follow false stages ≡ true

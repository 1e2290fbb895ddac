-- What holds of a deque whatever the steps are, as statements.
-- Source: this project.
use Rattle.std.specs.Prelude.{◌≡◌, List, drop, ◌++◌}
use mathlib.Core.Option.{some}
use lib.ListN.{get_elem?}
use Rattle.splittable.specs.Parts.{Stretch}
use Rattle.as_often.specs.AsOften.{AreAsOften}
use Rattle.part_deque.specs.declared.account.Account.{Account}
use Rattle.part_deque.specs.Rule.{DequeRule, whole_weight}
use Rattle.part_deque.specs.Steps.{IsStep, IsReached}

-- each kind of step keeps the rule, from each state that meets it
abbrev pub StepsKeepRule : Type 0
StepsKeepRule =
    (parts parts' : List Stretch) (views views' : List Account) → IsStep parts views parts' views' → DequeRule parts views →
    DequeRule parts' views'

-- whatever steps follow the making, the rule holds
abbrev pub RuleAlwaysHolds : Type 0
RuleAlwaysHolds = (parts : List Stretch) (views : List Account) → IsReached parts views → DequeRule parts views

-- what the owner knows that has the whole weight: what the deque holds, and that nothing pushed was lost or came out twice
pub record KnowsAll (parts : List Stretch) (v : Account) : Type 0 where
  pub held : parts ≡ drop v.stolen v.kept
  pub as_often : AreAsOften v.pushed (v.taken ++ parts)

abbrev pub WholeWeightKnowsAll : Type 0
WholeWeightKnowsAll =
    (parts : List Stretch) (views : List Account) (v : Account) → DequeRule parts views → get_elem? views 0 ≡ some v →
    v.weight ≡ whole_weight
    → KnowsAll parts v

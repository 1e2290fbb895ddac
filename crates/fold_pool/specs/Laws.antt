-- What holds of a queue whatever the steps are, as statements.
-- Source: this project.
use Rattle.std.specs.Prelude.{◌≡◌, ℕ, List}
use mathlib.Core.Option.{some}
use lib.ListN.{get_elem?}
use Rattle.splittable.specs.Parts.{Stretch}
use Rattle.fold_pool.specs.declared.views.QueueView.{QueueView}
use Rattle.fold_pool.specs.Taken.{whole_weight, AreFirst, left_of}
use Rattle.fold_pool.specs.Rule.{QueueRule}
use Rattle.fold_pool.specs.Reached.{IsStep, IsReached}

-- each kind of step keeps the rule, from each state that meets it
abbrev pub StepsKeepRule : Type 0
StepsKeepRule =
    (items items' : List Stretch) (views views' : List QueueView) → IsStep items views items' views' → QueueRule items views
    → QueueRule items' views'

-- whatever steps follow the making, the rule holds
abbrev pub RuleAlwaysHolds : Type 0
RuleAlwaysHolds = (items : List Stretch) (views : List QueueView) → IsReached items views → QueueRule items views

-- who has the whole weight knows what was taken, and what is left in the queue
pub record KnowsAll (items : List Stretch) (v : QueueView) : Type 0 where
  pub left : items ≡ left_of v.put v.taken
  pub taken : AreFirst v.put v.taken

abbrev pub WholeWeightKnowsAll : Type 0
WholeWeightKnowsAll =
    (items : List Stretch) (views : List QueueView) (seat : ℕ) (v : QueueView) → QueueRule items views
    → get_elem? views seat ≡ some v → v.weight ≡ whole_weight → KnowsAll items v

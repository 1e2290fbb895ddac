-- What holds of a stop word whatever the steps are, as statements.
-- Source: this project.
use Rattle.std.specs.Prelude.{◌≡◌, ◌≢◌, ◌<◌, ◌≤◌, ℕ, List, []}
use Rattle.std.specs.List.{All, Contains}
use mathlib.Core.Option.{some}
use lib.ListN.{get_elem?}
use Rattle.stop_word.specs.declared.views.StopView.{StopView}
use Rattle.stop_word.specs.Numbers.{no_stop, whole_weight, least_of, AreAmong, IsAtMost}
use Rattle.stop_word.specs.Rule.{StopRule, all_reported, all_seen}
use Rattle.stop_word.specs.Steps.{IsStep, IsReached}

-- each kind of step keeps the rule, from each state that meets it
abbrev pub StepsKeepRule : Type 0
StepsKeepRule = (word word' : ℕ) (views views' : List StopView) → IsStep word views word' views' → StopRule word views →
    StopRule word' views'

-- whatever steps follow the making, the rule holds
abbrev pub RuleAlwaysHolds : Type 0
RuleAlwaysHolds = (word : ℕ) (views : List StopView) → IsReached word views → StopRule word views

-- no step raises the word
abbrev pub WordNeverRises : Type 0
WordNeverRises = (word word' : ℕ) (views views' : List StopView) → IsStep word views word' views' → word' ≤ word

-- what a seat knows that has the whole weight: all other lists are empty, and the word is the least that it reported
pub record KnowsAll (word : ℕ) (views : List StopView) (v : StopView) : Type 0 where
  pub reported : all_reported views ≡ v.reported
  pub seen : all_seen views ≡ v.seen
  pub known : AreAmong v.reported v.seen
  pub least : word ≤ no_stop → word ≡ least_of v.reported

abbrev pub WholeWeightKnowsAll : Type 0
WholeWeightKnowsAll =
    (word : ℕ) (views : List StopView) (seat : ℕ) (v : StopView) → StopRule word views → get_elem? views seat ≡ some v →
    v.weight ≡ whole_weight
    → KnowsAll word views v

-- the least of some places is one of them
abbrev pub LeastIsOne : Type 0
LeastIsOne = (places : List ℕ) → places ≢ [] → All (λ n. n < no_stop) places → Contains places (least_of places)

-- and at most each of them
abbrev pub LeastIsLeast : Type 0
LeastIsLeast = (places : List ℕ) → IsAtMost (least_of places) places

-- What holds of a claim whatever the steps are, as statements.
-- Source: this project.
use Rattle.std.specs.Prelude.{◌≡◌, ℕ, List, IsPermutation}
use Rattle.std.specs.List.{Contains}
use mathlib.Core.Option.{some}
use lib.ListN.{get_elem?}
use Rattle.loop_batch.specs.declared.views.ClaimView.{ClaimView}
use Rattle.loop_batch.specs.Numbers.{whole_weight, numbers_below}
use Rattle.loop_batch.specs.Rule.{ClaimRule, all_drawn, weight_and_draws}
use Rattle.loop_batch.specs.Steps.{IsStep, IsReached}

-- each kind of step keeps the rule, from each state that meets it
abbrev pub StepsKeepRule : Type 0
StepsKeepRule =
    (word word' : ℕ) (views views' : List ClaimView) → IsStep word views word' views' → ClaimRule word views
    → ClaimRule word' views'

-- whatever steps follow the making, the rule holds
abbrev pub RuleAlwaysHolds : Type 0
RuleAlwaysHolds = (word : ℕ) (views : List ClaimView) → IsReached word views → ClaimRule word views

-- no seat has drawn the word, which the next draw gives
abbrev pub NextIsNew : Type 0
NextIsNew = (word : ℕ) (views : List ClaimView) → ClaimRule word views → ¬ Contains (all_drawn views) word

-- what a seat knows whose weight and draws are the whole: it has drawn all that was drawn, each number below the word once
pub record KnowsAll (word : ℕ) (views : List ClaimView) (v : ClaimView) : Type 0 where
  pub all : all_drawn views ≡ v.drawn
  pub below : IsPermutation v.drawn (numbers_below word)

abbrev pub WholeKnowsAll : Type 0
WholeKnowsAll =
    (word : ℕ) (views : List ClaimView) (seat : ℕ) (v : ClaimView) → ClaimRule word views
    → get_elem? views seat ≡ some v → weight_and_draws v ≡ whole_weight → KnowsAll word views v

-- The five kinds of step on a claim: what each changes of the word and of the views, and what steps lead to.
-- Source: this project.
use Rattle.std.specs.Prelude.{◌≡◌, ◌≢◌, ℕ, ◌+◌, ◌-◌, ◌/◌, ◌≤◌, List, [], ◌∷◌, ◌++◌}
use Rattle.std.specs.List.{slice_set}
use mathlib.Core.Option.{some}
use lib.ListN.{get_elem?}
use Rattle.loop_batch.specs.declared.views.ClaimView.{ClaimView}
use Rattle.loop_batch.specs.Numbers.{whole_weight}
use Rattle.loop_batch.specs.Rule.{claim_view, weight_and_draws}

-- the view of the first seat
abbrev pub first_view : ClaimView
first_view = claim_view whole_weight []

-- the view after a draw, which costs one weight: it has drawn the old word
abbrev pub view_drawn : ClaimView → ℕ → ClaimView
view_drawn v found = claim_view (v.weight - 1) (v.drawn ++ found ∷ [])

-- the two views after a split
abbrev pub left_view : ClaimView → ClaimView
left_view v = claim_view (v.weight - v.weight / 2) v.drawn

abbrev pub right_view : ClaimView → ClaimView
right_view v = claim_view (v.weight / 2) []

-- the two views after a join
abbrev pub both_view : ClaimView → ClaimView → ClaimView
both_view v w = claim_view (v.weight + w.weight) (v.drawn ++ w.drawn)

abbrev pub spent_view : ClaimView
spent_view = claim_view 0 []

-- the seat of this number has this view
pub record Holds (views : List ClaimView) (seat : ℕ) (v : ClaimView) : Type 0 where
  pub at : get_elem? views seat ≡ some v

-- One step after the making: the word and the views before it, and after it. A closing hands the word out.
pub data IsStep : ℕ → List ClaimView → ℕ → List ClaimView → Type 0 where
  a_draw : {word : ℕ} {views : List ClaimView} {seat : ℕ} {v : ClaimView} → Holds views seat v → 1 ≤ v.weight
      → IsStep word views (word + 1) (slice_set views seat (view_drawn v word))
  a_split : {word : ℕ} {views : List ClaimView} {seat : ℕ} {v : ClaimView} → Holds views seat v → 2 ≤ v.weight
      → IsStep word views word (slice_set views seat (left_view v) ++ right_view v ∷ [])
  a_join : {word : ℕ} {views : List ClaimView} {seat other : ℕ} {v w : ClaimView} → Holds views seat v
      → Holds views other w → other ≢ seat
      → IsStep word views word (slice_set (slice_set views seat (both_view v w)) other spent_view)
  a_closing : {word : ℕ} {views : List ClaimView} {seat : ℕ} {v : ClaimView} → Holds views seat v
      → weight_and_draws v ≡ whole_weight → IsStep word views word views

-- the making, and any steps after it, lead to this word and these views
pub data IsReached : ℕ → List ClaimView → Type 0 where
  the_making : IsReached 0 (first_view ∷ [])
  then_a_step : {word word' : ℕ} {views views' : List ClaimView} → IsReached word views
      → IsStep word views word' views' → IsReached word' views'

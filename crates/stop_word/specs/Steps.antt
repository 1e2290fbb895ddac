-- The steps on a stop word: what each changes of the word and of the views, and what steps lead to.
-- Source: this project.
use Rattle.std.specs.Prelude.{◌≡◌, ◌≢◌, ℕ, ◌+◌, ◌-◌, ◌/◌, ◌<◌, min, List, [], ◌∷◌, ◌++◌}
use Rattle.std.specs.List.{slice_set}
use mathlib.Core.Option.{some}
use lib.ListN.{get_elem?}
use Rattle.stop_word.specs.declared.views.StopView.{StopView}
use Rattle.stop_word.specs.Numbers.{no_stop, whole_weight}
use Rattle.stop_word.specs.Rule.{stop_view}

-- the view of the first seat
abbrev pub first_view : StopView
first_view = stop_view whole_weight [] []

-- the view after a load: it has seen the word
abbrev pub view_loaded : StopView → ℕ → StopView
view_loaded v found = stop_view v.weight v.reported (v.seen ++ found ∷ [])

-- the view after a report: it has reported a place and seen the old word
abbrev pub view_reported : StopView → ℕ → ℕ → StopView
view_reported v place found = stop_view v.weight (v.reported ++ place ∷ []) (v.seen ++ found ∷ [])

-- the two views after a split
abbrev pub left_view : StopView → StopView
left_view v = stop_view (v.weight - v.weight / 2) v.reported v.seen

abbrev pub right_view : StopView → StopView
right_view v = stop_view (v.weight / 2) [] []

-- the two views after a join
abbrev pub both_view : StopView → StopView → StopView
both_view v w = stop_view (v.weight + w.weight) (v.reported ++ w.reported) (v.seen ++ w.seen)

abbrev pub spent_view : StopView
spent_view = stop_view 0 [] []

-- the seat of this number has this view, and some weight
pub record Holds (views : List StopView) (seat : ℕ) (v : StopView) : Type 0 where
  pub at : get_elem? views seat ≡ some v
  pub some_weight : 0 < v.weight

-- One step, by a seat that has weight: the word and the views before it, and after it. A closing hands the word out.
pub data IsStep : ℕ → List StopView → ℕ → List StopView → Type 0 where
  a_load : {word : ℕ} {views : List StopView} {seat : ℕ} {v : StopView} → Holds views seat v
      → IsStep word views word (slice_set views seat (view_loaded v word))
  a_report : {word : ℕ} {views : List StopView} {seat : ℕ} {v : StopView} (place : ℕ) → Holds views seat v
      → IsStep word views (min word place) (slice_set views seat (view_reported v place word))
  a_split : {word : ℕ} {views : List StopView} {seat : ℕ} {v : StopView} → Holds views seat v
      → IsStep word views word (slice_set views seat (left_view v) ++ right_view v ∷ [])
  a_join : {word : ℕ} {views : List StopView} {seat other : ℕ} {v w : StopView} → Holds views seat v → Holds views other w →
      other ≢ seat
      → IsStep word views word (slice_set (slice_set views seat (both_view v w)) other spent_view)
  a_closing : {word : ℕ} {views : List StopView} {seat : ℕ} {v : StopView} → Holds views seat v → v.weight ≡ whole_weight
      → IsStep word views word views

-- the making, and any steps after it, lead to this word and these views
pub data IsReached : ℕ → List StopView → Type 0 where
  the_making : IsReached no_stop (first_view ∷ [])
  then_a_step : {word word' : ℕ} {views views' : List StopView} → IsReached word views → IsStep word views word' views' →
      IsReached word' views'

-- The kinds of step on a queue: what each changes of the parts and of the views, and what steps lead to.
-- Source: this project.
use Rattle.std.specs.Prelude.{◌≡◌, ◌≢◌, ℕ, ◌<◌, List, [], ◌∷◌, ◌++◌}
use Rattle.std.specs.List.{slice_set}
use mathlib.Core.Option.{some}
use lib.ListN.{get_elem?}
use Rattle.splittable.specs.Parts.{Stretch}
use Rattle.splittable.specs.Nodes.{IsLeaf}
use Rattle.fold_pool.specs.declared.views.QueueView.{QueueView}
use Rattle.fold_pool.specs.Taken.{whole_weight}
use Rattle.fold_pool.specs.Rule.{queue_view, first_view, spent_view}
use Rattle.fold_pool.specs.Steps.{view_put, view_taken, left_view, right_view, both_view}

-- the seat of this number has this view, and some weight
pub record Holds (views : List QueueView) (seat : ℕ) (v : QueueView) : Type 0 where
  pub at : get_elem? views seat ≡ some v
  pub some_weight : 0 < v.weight

-- One step, by a seat that has weight: the queue's parts and the views before it, and after it. The first seat is told for which
-- shape the queue is, before anything is put; who has the whole weight puts leaves at the end and closes the queue; any seat takes
-- the part at the front, is split, or is joined with another.
pub data IsStep : List Stretch → List QueueView → List Stretch → List QueueView → Type 0 where
  a_telling : {items : List Stretch} {views : List QueueView} {seat : ℕ} {v : QueueView} (shape : List ℕ) (least : ℕ)
      → Holds views seat v → v ≡ first_view
      → IsStep items views items (slice_set views seat (queue_view v.weight shape least v.put v.taken) ++ spent_view ∷ [])
  a_put : {items : List Stretch} {views : List QueueView} {seat : ℕ} {v : QueueView} (part : Stretch)
      → Holds views seat v → v.weight ≡ whole_weight → IsLeaf v.shape v.least part
      → IsStep items views (items ++ part ∷ []) (slice_set views seat (view_put v part))
  a_taking : {items : List Stretch} {views : List QueueView} {seat : ℕ} {v : QueueView} (part : Stretch) → Holds views seat v
      → IsStep (part ∷ items) views items (slice_set views seat (view_taken v part))
  a_split : {items : List Stretch} {views : List QueueView} {seat : ℕ} {v : QueueView} → Holds views seat v
      → IsStep items views items (slice_set views seat (left_view v) ++ right_view v ∷ [])
  a_join : {items : List Stretch} {views : List QueueView} {seat other : ℕ} {v w : QueueView}
      → Holds views seat v → Holds views other w → other ≢ seat
      → IsStep items views items (slice_set (slice_set views seat (both_view v w)) other spent_view)
  a_closing : {items : List Stretch} {views : List QueueView} {seat : ℕ} {v : QueueView}
      → Holds views seat v → v.weight ≡ whole_weight → IsStep items views items views

-- the making, and any steps after it, lead to these parts and these views
pub data IsReached : List Stretch → List QueueView → Type 0 where
  the_making : IsReached [] (first_view ∷ [])
  then_a_step : {items items' : List Stretch} {views views' : List QueueView} → IsReached items views
      → IsStep items views items' views' → IsReached items' views'

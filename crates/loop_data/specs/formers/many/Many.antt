-- How a `Many` holds its items, so that a type may hold itself through it: its value is their list.
-- Source: this project, by the kit's rules for an owner of many values.
use mathlib.Core.Path.{◌≡◌, refl, sym}
use mathlib.Core.List.{List, []}
use mathlib.Core.Former.{Former, this, list, via, children}
use base.Stored.{code_map}
use denote.RattleType.{RattleType}
use denote.HoleLaws.{Alike}
use denote.HolePlaces.{Recodes, struct_places, laid}
use denote.Hole.Carrier.{listed, list-listed}
use denote.Hole.Fix.{over}
use denote.Param.Weighed.{Weighed, w_list}
use denote.Model.Placed.{view_places}
use Rattle.std.specs.declared.alloc.Global.{Global}
use Rattle.std.specs.contracts.alloc.Global as heap
use Rattle.std.specs.contracts.impls.GlobalAllocator.TheImpl.{ghosts}
use Rattle.std.specs.formers.vec.Vec as vec
use Rattle.loop_data.specs.declared.many.Many.TheInside.{Inside}
use Rattle.loop_data.specs.declared.many.Many.TheView.{view, invariant}
use Rattle.loop_data.specs.contracts.many.Many as row
use Rattle.loop_data.specs.contracts.many.Many.TheInside as inside

-- the items in their order, each with what it holds
abbrev pub the_former : Former {0} → Former {0}
the_former g = list g

-- the largest measure among the items
abbrev pub the_weighed : {g : Former {0}} → Weighed g → Weighed (the_former g)
the_weighed w = w_list w

pub the_empty : List ⊥
the_empty = []

abbrev pub the_items : (X : Type 0) → List X → List X
the_items X xs = xs

pub the_items_listed : (X : Type 0) (xs : List X) → listed _ (children (the_former this) X xs) ≡ the_items X xs
the_items_listed X xs = list-listed X xs

-- the one field, a `Vec` over the heap
abbrev held : Former {0}
held = via (vec.the_former this Global) Inside (λ X m. m.held) (λ X v. record { held = v }) (λ X m. refl) (λ X v. refl)

module _ (R S : RattleType) (h : R.Denot → S.Denot) where
  held_places : Alike R S h → Alike (inside.the_row R) (inside.the_row S) (held.map R.Denot S.Denot h)
  held_places a =
      struct_places (inside.the_type R) (inside.the_type S) (vec.mapped h, tt) _ (λ m. refl) refl
      (laid _ _ _ (vec.the_places heap.the_row ghosts R S h a), tt)

  pub the_places : Alike R S h → Alike (row.the_row R) (row.the_row S) ((the_former this).map R.Denot S.Denot h)
  the_places a =
      view_places held (list this) view (λ X Y k m. refl) (λ X m. refl) R.Denot S.Denot h (row.the_row R).coded
      (row.the_row S).coded
      (invariant R.Denot) (invariant S.Denot) (λ m p q. refl) (λ m p q. refl) (λ m e. tt) (λ m e. tt)
      (over (inside.the_row R)) (over (inside.the_row S)) (held_places a)

  pub the_codes_placed : Recodes R S h → Recodes (row.the_row R) (row.the_row S) ((the_former this).map R.Denot S.Denot h)
  the_codes_placed same xs = sym (code_map R.coded.code S.coded.code h (λ x. sym (same x)) xs)

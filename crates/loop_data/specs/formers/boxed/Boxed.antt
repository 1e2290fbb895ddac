-- How a `Boxed` holds its value, so that a type may hold itself through it: what contracts see is that value.
-- Source: this project, by the kit's rules for an owner of many values.
use mathlib.Core.Path.{◌≡◌, refl}
use mathlib.Core.Former.{Former, this, const, pair, via}
use base.Stored.{gnil}
use base.Fml.{ftrue}
use denote.RattleType.{RattleType}
use denote.Memory.{part_of}
use denote.RawPtr.{Ptr}
use denote.Sharing.{nothing}
use denote.HoleLaws.{Alike}
use denote.HolePlaces.{Recodes, struct_places, laid, one_value}
use denote.Hole.Fix.{over}
use denote.Param.Weighed.{Weighed}
use denote.Model.Placed.{view_places}
use Rattle.std.specs.declared.cmp.PartialEq as eq
use Rattle.std.specs.declared.boxed.Box.{Box}
use Rattle.std.specs.contracts.boxed.Box as heap_box
use Rattle.std.specs.declared.alloc.Global.{Global}
use Rattle.std.specs.contracts.alloc.Global as heap
use Rattle.std.specs.contracts.impls.GlobalAllocator.TheImpl.{ghosts}
use Rattle.loop_data.specs.declared.boxed.Boxed.TheInside.{Inside}
use Rattle.loop_data.specs.declared.boxed.Boxed.TheView.{view, invariant}
use Rattle.loop_data.specs.contracts.boxed.Boxed as row
use Rattle.loop_data.specs.contracts.boxed.Boxed.TheInside as inside

-- the one value
abbrev pub the_former : Former {0} → Former {0}
the_former g = g

abbrev pub the_weighed : {g : Former {0}} → Weighed g → Weighed (the_former g)
the_weighed w = w

-- a box elsewhere with another value
abbrev moved : {X Y : Type 0} → Box X Global → Y → Box Y Global
moved b y = record { ptr = b.ptr; alloc = b.alloc; value = y }

-- the one field, a `Box` over the heap: where it lies, and its value
abbrev held : Former {0}
held = via (pair (const (Ptr × Global)) this) Inside (λ X b. ((b.held.ptr, b.held.alloc), b.held.value))
    (λ X v. record { held = record { ptr = v.0.0; alloc = v.0.1; value = v.1 } }) (λ X b. refl) (λ X v. refl)

abbrev box_row : RattleType → RattleType
box_row R = heap_box.the_row R heap.the_row ghosts

module _ (R S : RattleType) (h : R.Denot → S.Denot) where
  -- a box owns and lends what its value does, and a block
  box_places : Alike R S h → Alike (box_row R) (box_row S) (λ b. moved b (h b.value))
  unfolding part_of
  box_places a = record {
    mir_same = λ i. (box_row (one_value R (a.mir_same i) (λ _. ftrue) (λ _ _. nothing) gnil)).mir;
    own_same = λ b i.
        (box_row (one_value R (a.mir_same i) (a.own_same b.value i) (a.shr_same b.value i) gnil)).own_val (moved b tt);
    shr_same = λ b i.
        (box_row (one_value R (a.mir_same i) (a.own_same b.value i) (a.shr_same b.value i) gnil)).shr_at (moved b tt);
  }

  held_places : Alike R S h → Alike (inside.the_row R) (inside.the_row S) (held.map R.Denot S.Denot h)
  held_places a =
      struct_places (inside.the_type R) (inside.the_type S) ((λ b. moved b (h b.value)), tt) _ (λ b. refl) refl
      (laid _ _ _ (box_places a), tt)

  pub the_places : Alike R S h → Alike (row.the_row R) (row.the_row S) ((the_former this).map R.Denot S.Denot h)
  the_places a =
      view_places held this view (λ X Y k b. refl) (λ X b. refl) R.Denot S.Denot h (row.the_row R).coded (row.the_row S).coded
      (invariant R.Denot) (invariant S.Denot) (λ b p q. refl) (λ b p q. refl) (λ b e. tt) (λ b e. tt)
      (over (inside.the_row R)) (over (inside.the_row S)) (held_places a)

  pub the_codes_placed : Recodes R S h → Recodes (row.the_row R) (row.the_row S) ((the_former this).map R.Denot S.Denot h)
  the_codes_placed same x = same x

-- the values are compared
pub the_eq_natural : (X Y : Type 0) (h : X → Y) (V : eq.Ghosts Y) (a b : X) → V.eq (h a) (h b) ≡ V.eq (h a) (h b)
the_eq_natural X Y h V a b = refl

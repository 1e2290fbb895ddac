-- Nodes are parts, and so are their halves.
use Rattle.std.proofs.Common.{◌≡◌, ℕ, suc, ◌+◌, ◌-◌, ◌<◌, ◌≤◌, List, ◌++◌, refl, sym, ap, subst, ◌∙◌, arith}
use Rattle.std.proofs.Math.Logic.{∥∥₁_map}
use Rattle.splittable.specs.Parts.{Stretch, left_len, left_half, right_half, numbers_from, part_places, AreHalves}
use Rattle.splittable.specs.Nodes.{IsNodeAt, IsNode, the_whole, the_left, the_right, HasNodes}
use Rattle.splittable.specs.Fields.{IsPart, cut}
use Rattle.splittable.proofs.PartHalves.{part_halves, left_len-cut, numbers_from-add}

pub halves_are_nodes : (lens : List ℕ) (least : ℕ) (part : Stretch) → 1 < part.len → HasNodes lens least part (left_half part) (right_half part)
halves_are_nodes lens least part many node longer =
    (∥∥₁_map node (λ x. (suc x.0, the_left x.1 many longer)), ∥∥₁_map node (λ x. (suc x.0, the_right x.1 many longer)))

-- a node for some least part size is one for each smaller size
smaller_at : (lens : List ℕ) (less least depth : ℕ) (part : Stretch) → less ≤ least → IsNodeAt lens least depth part → IsNodeAt lens less depth part
smaller_at lens less least _ _ le (the_whole some) = the_whole some
smaller_at lens less least _ _ le (the_left {depth = d} {part = p} h many longer) = the_left (smaller_at lens less least d p le h) many (omega (arith, le, longer))
smaller_at lens less least _ _ le (the_right {depth = d} {part = p} h many longer) = the_right (smaller_at lens less least d p le h) many (omega (arith, le, longer))

pub for_smaller_parts : (lens : List ℕ) (less least : ℕ) (part : Stretch) → less ≤ least → IsNode lens least part → IsNode lens less part
for_smaller_parts lens less least part le node = ∥∥₁_map node (λ x. (x.0, smaller_at lens less least x.0 part le x.1))

-- a part is cut as its halves say
pub record IsCutIn (part left right : Stretch) : Type 0 where
  pub left_is : left ≡ left_half part
  pub right_is : right ≡ right_half part
  pub halves : AreHalves part left right
  pub left_part : IsPart left
  pub right_part : IsPart right
  pub whole : part_places left ++ part_places right ≡ part_places part
  pub nodes : (least : ℕ) → HasNodes part.lens least part left right

pub cut_in : (part : Stretch) → IsPart part → 2 ≤ part.len → IsCutIn part (left_half part) (right_half part)
cut_in part h many =
    let well = part_halves part h many in
    let all : left_len part + (part.len - left_len part) ≡ part.len = omega (arith, well.halves.together) in
    record {
      left_is = refl;
      right_is = refl;
      halves = well.halves;
      left_part = well.left;
      right_part = well.right;
      whole = sym (numbers_from-add part.first (left_len part) (part.len - left_len part)) ∙ ap (numbers_from part.first) all;
      nodes = λ least. halves_are_nodes part.lens least part many;
    }

-- the same of the fields of a part, which are cut by the lengths alone
pub fields_cut_in : (part : Stretch) (lens : List ℕ) (first len n : ℕ) → IsPart (record { lens = lens; first = first; len = len }) → 2 ≤ len →
    n ≡ cut lens len → (let fields : Stretch = record { lens = lens; first = first; len = len } in fields ≡ part) →
    IsCutIn part (record { lens = lens; first = first; len = n }) (record { lens = lens; first = first + n; len = len - n })
fields_cut_in part lens first len n h many e view =
    let fields : Stretch = record { lens = lens; first = first; len = len } in
    let is : n ≡ left_len fields = e ∙ sym (left_len-cut fields h many) in
    let here : IsCutIn fields (record { lens = lens; first = first; len = n }) (record { lens = lens; first = first + n; len = len - n }) =
    (let P : ℕ → Type 0 = λ k. IsCutIn fields (record { lens = lens; first = first; len = k }) (record { lens = lens; first = first + k; len = len - k }) in
    subst P (sym is) (cut_in fields h many)) in
    let Q : Stretch → Type 0 = λ s. IsCutIn s (record { lens = lens; first = first; len = n }) (record { lens = lens; first = first + n; len = len - n }) in
    subst Q view here

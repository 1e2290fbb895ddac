-- Nodes by the way down to them from a part: which half is taken at each halving.
use Rattle.std.proofs.Common.{◌≡◌, ℕ, ◌+◌, ◌*◌, ◌<◌, ◌≤◌, Bool, true, false, List, [], ◌∷◌, ◌++◌, length, length-append, refl, sym, subst, ◌∙◌, arith}
use Rattle.splittable.specs.Places.{item_count}
use Rattle.splittable.specs.Parts.{Stretch, left_half, right_half, whole_of, LiesIn}
use Rattle.splittable.specs.Nodes.{IsNodeAt, the_whole, the_left, the_right}
use Rattle.splittable.specs.Fields.{IsPart}
use Rattle.splittable.proofs.PartHalves.{part_halves}

-- the left half where the side is true
abbrev pub half : Bool → Stretch → Stretch
half true part = left_half part
half false part = right_half part

-- the way leads from the top down to the part, halving only what is longer than the least part size
abbrev pub Leads : ℕ → Stretch → List Bool → Stretch → Type 0
Leads least top [] part = part ≡ top
Leads least top (side ∷ way) part = (1 < top.len) × (least < top.len) × Leads least (half side top) way part

leads_on : (least : ℕ) (top : Stretch) (way : List Bool) (part : Stretch) (side : Bool) → Leads least top way part → 1 < part.len → least < part.len →
    Leads least top (way ++ side ∷ []) (half side part)
leads_on least top [] part side h many longer =
    let P : Stretch → Type 0 = λ t. Leads least t (side ∷ []) (half side part) in
    subst P h (many, longer, refl)
leads_on least top (turn ∷ way) part side h many longer = (h.0, h.1, leads_on least (half turn top) way part side h.2 many longer)

-- each node is led to from the whole, by as many halvings as its depth
pub record IsLedTo (lens : List ℕ) (least depth : ℕ) (part : Stretch) : Type 0 where
  pub some : 1 ≤ item_count lens
  pub way : List Bool
  pub leads : Leads least (whole_of lens) way part
  pub steps : length way ≡ depth

pub led_to : (lens : List ℕ) (least depth : ℕ) (part : Stretch) → IsNodeAt lens least depth part → IsLedTo lens least depth part
led_to lens least _ _ (the_whole some) = record { some = some; way = []; leads = refl; steps = refl }
led_to lens least _ _ (the_left {depth = d} {part = p} h many longer) =
    let up = led_to lens least d p h in
    record { some = up.some; way = up.way ++ true ∷ []; leads = leads_on least (whole_of lens) up.way p true up.leads many longer; steps = omega (arith, length-append up.way (true ∷ []), up.steps) }
led_to lens least _ _ (the_right {depth = d} {part = p} h many longer) =
    let up = led_to lens least d p h in
    record { some = up.some; way = up.way ++ false ∷ []; leads = leads_on least (whole_of lens) up.way p false up.leads many longer; steps = omega (arith, length-append up.way (false ∷ []), up.steps) }

-- a half is a part within its whole, of the same shape
pub record IsHalf (part half : Stretch) : Type 0 where
  pub is_part : IsPart half
  pub lens : half.lens ≡ part.lens
  pub from : part.first ≤ half.first
  pub to : half.first + half.len ≤ part.first + part.len
  pub shorter : half.len < part.len
  pub two_thirds : 3 * half.len ≤ 2 * part.len
  pub third : part.len ≤ 3 * half.len

pub half_is : (side : Bool) (part : Stretch) → IsPart part → 1 < part.len → IsHalf part (half side part)
half_is true part h many =
    let well = part_halves part h many in
    record {
      is_part = well.left;
      lens = refl;
      from = omega arith;
      to = omega (arith, well.halves.together);
      shorter = omega (arith, well.halves.together, well.right.some);
      two_thirds = omega (arith, well.halves.together, well.halves.right_third);
      third = well.halves.left_third;
    }
half_is false part h many =
    let well = part_halves part h many in
    record {
      is_part = well.right;
      lens = refl;
      from = omega arith;
      to = omega (arith, well.halves.together);
      shorter = omega (arith, well.halves.together, well.left.some);
      two_thirds = omega (arith, well.halves.together, well.halves.left_third);
      third = well.halves.right_third;
    }

-- what a way leads to is a part within the top
pub record IsBelow (top part : Stretch) : Type 0 where
  pub is_part : IsPart part
  pub lens : part.lens ≡ top.lens
  pub within : LiesIn part top

pub below : (least : ℕ) (top : Stretch) (way : List Bool) (part : Stretch) → IsPart top → Leads least top way part → IsBelow top part
below least top [] part h way =
    let P : Stretch → Type 0 = λ p. IsBelow top p in
    subst P (sym way) (record { is_part = h; lens = refl; within = (omega arith, omega arith) })
below least top (side ∷ way) part h leads =
    let here = half_is side top h leads.0 in
    let there = below least (half side top) way part here.is_part leads.2 in
    record { is_part = there.is_part; lens = there.lens ∙ here.lens; within = (omega (arith, here.from, there.within.0), omega (arith, here.to, there.within.1)) }

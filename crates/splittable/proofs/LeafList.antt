-- The leaves are leaves, next to each other, and those of a node are those of its halves.
use Rattle.std.proofs.Common.{◌≡◌, ℕ, zero, suc, ◌+◌, ◌<◌, ◌≤◌, true, false, inl, inr, List, [], ◌∷◌, ◌++◌, refl, sym, subst, arith}
use Rattle.std.specs.List.{AllByRecursion, AllByRecursion-prop}
use mathlib.Core.HLevel.{×_prop}
use denote.Struct.Props.{props}
use Rattle.std.proofs.lemmas.Bool.{cases_lt}
use Rattle.std.proofs.Math.Logic.{∥∥₁_elim}
use Rattle.splittable.specs.Places.{item_count}
use Rattle.splittable.specs.Parts.{Stretch, left_half, right_half, whole_of, AreNeighbours}
use Rattle.splittable.specs.Nodes.{the_whole, IsNode, IsLeaf, leaves_within, leaves_under, leaves_of}
use Rattle.splittable.specs.Fields.{IsPart}
use Rattle.splittable.proofs.PartHalves.{part_halves, whole_part}
use Rattle.splittable.proofs.Nodes.{halves_are_nodes}
use Rattle.splittable.proofs.Nesting.{node_is_of}
use Rattle.splittable.proofs.Reached.{half_is}
use Rattle.splittable.proofs.Leaves.{leaves_within-leaf, leaves_within-longer, leaves_under-longer, leaves_of-none, leaves_of-some}
use Rattle.splittable.proofs.Covers.{lists_prop}

all-append : (P : Stretch → Type 0) (xs ys : List Stretch) → AllByRecursion P xs → AllByRecursion P ys → AllByRecursion P (xs ++ ys)
all-append P [] ys h k = k
all-append P (x ∷ xs) ys h k = (h.0, all-append P xs ys h.1 k)

pub AreNeighbours-append : (from mid to : ℕ) (xs ys : List Stretch) → AreNeighbours from xs mid → AreNeighbours mid ys to → AreNeighbours from (xs ++ ys) to
AreNeighbours-append from mid to [] ys h k = let P : ℕ → Type 0 = λ n. AreNeighbours n ys to in subst P (sym h) k
AreNeighbours-append from mid to (x ∷ xs) ys h k = (h.0, AreNeighbours-append (x.first + x.len) mid to xs ys h.1 k)

-- the leaves of a node, and where they lie
record AreLeaves (lens : List ℕ) (least : ℕ) (part : Stretch) (parts : List Stretch) : Type 0 where
  leaves : AllByRecursion (IsLeaf lens least) parts
  near : AreNeighbours part.first parts (part.first + part.len)

are_leaves : (n : ℕ) (lens : List ℕ) (least : ℕ) (part : Stretch) → IsNode lens least part → IsPart part → 1 ≤ least → part.len ≤ n → AreLeaves lens least part (leaves_within n least part)
are_leaves zero lens least part node h some le = absurd (omega (arith, h.some))
are_leaves (suc n) lens least part node h some le =
    elim (cases_lt least part.len) [
      | inl longer ↦
          (let left = half_is true part h (omega arith) in
          let right = half_is false part h (omega arith) in
          let well = part_halves part h (omega arith) in
          let nodes = halves_are_nodes lens least part (omega arith) node longer in
          let in_left = are_leaves n lens least (left_half part) nodes.0 left.is_part some (omega (arith, left.shorter)) in
          let in_right = are_leaves n lens least (right_half part) nodes.1 right.is_part some (omega (arith, right.shorter)) in
          let end : (right_half part).first + (right_half part).len ≡ part.first + part.len = omega (arith, well.halves.together) in
          rw (leaves_within-longer n least part longer) (record {
            leaves = all-append (IsLeaf lens least) (leaves_within n least (left_half part)) (leaves_within n least (right_half part)) in_left.leaves in_right.leaves;
            near = (let P : ℕ → Type 0 = λ k. AreNeighbours part.first (leaves_within n least (left_half part) ++ leaves_within n least (right_half part)) k in
                subst P end (AreNeighbours-append part.first (right_half part).first ((right_half part).first + (right_half part).len) (leaves_within n least (left_half part)) (leaves_within n least (right_half part)) in_left.near in_right.near));
          }))
      | inr short ↦ rw (leaves_within-leaf (suc n) least part short) (record { leaves = ((node, short), tt); near = (refl, refl) })
    ]

pub leaves_are_leaves : (lens : List ℕ) (least : ℕ) → 1 ≤ least → AllByRecursion (IsLeaf lens least) (leaves_of lens least)
leaves_are_leaves lens least large =
    elim (cases_lt 0 (item_count lens)) [
      | inl some ↦
          (let some' : 1 ≤ item_count lens = omega arith in
          rw (leaves_of-some lens least some')
          (are_leaves (item_count lens) lens least (whole_of lens) ∣ (0, the_whole some') ∣₁ (whole_part lens some') large (omega arith)).leaves)
      | inr none ↦ rw (leaves_of-none lens least (omega arith)) tt
    ]

pub leaves_are_neighbours : (lens : List ℕ) (least : ℕ) → 1 ≤ least → AreNeighbours 1 (leaves_of lens least) (item_count lens + 1)
leaves_are_neighbours lens least large =
    elim (cases_lt 0 (item_count lens)) [
      | inl some ↦
          (let some' : 1 ≤ item_count lens = omega arith in
          let end : 1 + item_count lens ≡ item_count lens + 1 = omega arith in
          let near = (are_leaves (item_count lens) lens least (whole_of lens) ∣ (0, the_whole some') ∣₁ (whole_part lens some') large (omega arith)).near in
          rw (leaves_of-some lens least some') (let P : ℕ → Type 0 = λ k. AreNeighbours 1 (leaves_under least (whole_of lens)) k in subst P end near))
      | inr none ↦ rw (leaves_of-none lens least (omega arith)) (omega arith)
    ]

pub leaves_of_leaf : (least : ℕ) (part : Stretch) → part.len ≤ least → leaves_under least part ≡ part ∷ []
leaves_of_leaf least part h = leaves_within-leaf part.len least part h

pub leaves_of_longer : (lens : List ℕ) (least : ℕ) (part : Stretch) → IsNode lens least part → 1 ≤ least → least < part.len →
    leaves_under least part ≡ leaves_under least (left_half part) ++ leaves_under least (right_half part)
leaves_of_longer lens least part node some longer =
    ∥∥₁_elim node (lists_prop _ _) (λ x. leaves_under-longer least part (node_is_of lens least x.0 part x.1).is_part some longer)

neighbours_prop : (from : ℕ) (parts : List Stretch) (to : ℕ) → IsProp (AreNeighbours from parts to)
neighbours_prop from [] to = hlevel props
neighbours_prop from (part ∷ parts) to =
    let first : IsProp (part.first ≡ from) = hlevel props in
    ×_prop first (neighbours_prop (part.first + part.len) parts to)

leaf_prop : (lens : List ℕ) (least : ℕ) (part : Stretch) → IsProp (IsLeaf lens least part)
leaf_prop lens least part = hlevel props

pub leaves_under_node : (lens : List ℕ) (least : ℕ) (part : Stretch) → IsNode lens least part → 1 ≤ least → AllByRecursion (IsLeaf lens least) (leaves_under least part)
leaves_under_node lens least part node some =
    ∥∥₁_elim node (AllByRecursion-prop (IsLeaf lens least) (leaf_prop lens least) (leaves_under least part))
    (λ x. (are_leaves part.len lens least part node (node_is_of lens least x.0 part x.1).is_part some (omega arith)).leaves)

pub neighbours_under_node : (lens : List ℕ) (least : ℕ) (part : Stretch) → IsNode lens least part → 1 ≤ least →
    AreNeighbours part.first (leaves_under least part) (part.first + part.len)
neighbours_under_node lens least part node some =
    ∥∥₁_elim node (neighbours_prop part.first (leaves_under least part) (part.first + part.len))
    (λ x. (are_leaves part.len lens least part node (node_is_of lens least x.0 part x.1).is_part some (omega arith)).near)

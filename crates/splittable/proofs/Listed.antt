-- The leaves of a shape are exactly the listed ones.
use Rattle.std.proofs.Common.{◌≡◌, ℕ, suc, ◌+◌, ◌<◌, ◌≤◌, ◌↔◌, inl, inr, List, [], ◌∷◌, refl, sym, ap, subst, ◌∙◌, arith}
use Rattle.std.specs.Prelude.{Contains}
use Rattle.std.proofs.lemmas.Bool.{cases_lt}
use Rattle.std.proofs.lemmas.List.Elements.{All-contains, All-from_recursion}
use Rattle.splittable.specs.Places.{item_count}
use Rattle.splittable.specs.Parts.{Stretch, HoldsPlace, AreNeighbours}
use Rattle.splittable.specs.Nodes.{IsLeaf, leaves_of}
use Rattle.splittable.proofs.Nesting.{leaf_lies_in, node_lies}
use Rattle.splittable.proofs.LeafList.{leaves_are_leaves, leaves_are_neighbours}

-- one of a list of neighbours holds each place between their ends
record IsHeld (place : ℕ) (parts : List Stretch) : Type 0 where
  part : Stretch
  among : Contains parts part
  holds : HoldsPlace part place

held : (from to place : ℕ) (parts : List Stretch) → AreNeighbours from parts to → from ≤ place → place < to → IsHeld place parts
held from to place [] near low high = absurd (omega (arith, near))
held from to place (part ∷ parts) near low high =
    elim (cases_lt place (part.first + part.len)) [
      | inl here ↦ record { part = part; among = (0, omega arith, refl); holds = (omega (arith, near.0), here) }
      | inr later ↦
          (let rest = held (part.first + part.len) to place parts near.1 later high in
          record { part = rest.part; among = (suc rest.among.0, omega (arith, rest.among.1), rest.among.2); holds = rest.holds })
    ]

abbrev stretch : List ℕ → ℕ → ℕ → Stretch
stretch lens first len = record { lens = lens; first = first; len = len }

same_stretch : (a b : Stretch) → a.lens ≡ b.lens → a.first ≡ b.first → a.len ≡ b.len → a ≡ b
same_stretch a b lens first len =
    ap (λ l. stretch l a.first a.len) lens ∙ ap (λ f. stretch b.lens f a.len) first ∙ ap (λ n. stretch b.lens b.first n) len

-- two leaves that share a place are one
one_leaf : (lens : List ℕ) (least place : ℕ) (a b : Stretch) → IsLeaf lens least a → IsLeaf lens least b → HoldsPlace a place → HoldsPlace b place → a ≡ b
one_leaf lens least place a b la lb ha hb =
    let there = leaf_lies_in lens least place a b la lb.0 ha hb in
    let back = leaf_lies_in lens least place b a lb la.0 hb ha in
    same_stretch a b
    ((node_lies lens least a la.0).0 ∙ sym (node_lies lens least b lb.0).0)
    (omega (arith, there.0, there.1, back.0, back.1))
    (omega (arith, there.0, there.1, back.0, back.1))

listed_is_leaf : (lens : List ℕ) (least : ℕ) (part : Stretch) → 1 ≤ least → Contains (leaves_of lens least) part → IsLeaf lens least part
listed_is_leaf lens least part some among =
    let P : Stretch → Type 0 = IsLeaf lens least in
    All-contains P (leaves_of lens least) part (All-from_recursion P (leaves_of lens least) (leaves_are_leaves lens least some)) among

leaf_is_listed : (lens : List ℕ) (least : ℕ) (part : Stretch) → 1 ≤ least → IsLeaf lens least part → Contains (leaves_of lens least) part
leaf_is_listed lens least part some leaf =
    let lies = node_lies lens least part leaf.0 in
    let here = held 1 (item_count lens + 1) part.first (leaves_of lens least) (leaves_are_neighbours lens least some) lies.1 (omega (arith, lies.2, lies.3)) in
    let other : IsLeaf lens least here.part = listed_is_leaf lens least here.part some here.among in
    let same : here.part ≡ part = one_leaf lens least part.first here.part part other leaf here.holds (omega arith, omega (arith, lies.2)) in
    let P : Stretch → Type 0 = λ p. Contains (leaves_of lens least) p in
    subst P same here.among

pub leaves_are_listed : (lens : List ℕ) (least : ℕ) (part : Stretch) → 1 ≤ least → Contains (leaves_of lens least) part ↔ IsLeaf lens least part
leaves_are_listed lens least part some = (listed_is_leaf lens least part some, leaf_is_listed lens least part some)

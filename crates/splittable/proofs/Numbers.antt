-- The places of parts that lie next to each other.
use Rattle.std.proofs.Common.{◌≡◌, ℕ, ◌+◌, ◌-◌, ◌≤◌, List, [], ◌∷◌, ◌++◌, refl, sym, ap, ◌∙◌, arith}
use Rattle.std.specs.List.{flat_map}
use Rattle.splittable.specs.Parts.{Stretch, numbers_from, part_places, AreNeighbours}
use Rattle.splittable.proofs.PartHalves.{numbers_from-add}

no_numbers : (first : ℕ) → [] ≡ numbers_from first 0
unfolding numbers_from
no_numbers first = refl

pub places_of_two : (lens : List ℕ) (left right : Stretch) → right.first ≡ left.first + left.len → part_places left ++ part_places right ≡ numbers_from left.first (left.len + right.len)
places_of_two lens left right next =
    ap (λ f. part_places left ++ numbers_from f right.len) next ∙ sym (numbers_from-add left.first left.len right.len)

from_before_to : (from to : ℕ) (parts : List Stretch) → AreNeighbours from parts to → from ≤ to
from_before_to from to [] near = omega (arith, near)
from_before_to from to (part ∷ parts) near = omega (arith, near.0, from_before_to (part.first + part.len) to parts near.1)

pub places_of_neighbours : (from to : ℕ) (parts : List Stretch) → AreNeighbours from parts to → flat_map part_places parts ≡ numbers_from from (to - from)
places_of_neighbours from to [] near = let e : to - from ≡ 0 = omega (arith, near) in rw e (no_numbers from)
places_of_neighbours from to (part ∷ parts) near =
    let rest : flat_map part_places parts ≡ numbers_from (part.first + part.len) (to - (part.first + part.len)) = places_of_neighbours (part.first + part.len) to parts near.1 in
    let all : part.len + (to - (part.first + part.len)) ≡ to - part.first = omega (arith, from_before_to (part.first + part.len) to parts near.1) in
    ap (λ ys. part_places part ++ ys) rest
    ∙ sym (numbers_from-add part.first part.len (to - (part.first + part.len)))
    ∙ ap (numbers_from part.first) all
    ∙ ap (λ f. numbers_from f (to - f)) near.0

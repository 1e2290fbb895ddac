-- A part of a shape: consecutive places. Its windows on the axes, and its two halves.
-- Source: `halve` of SplittablesBase.jl; where a part is cut is this project's own.
use Rattle.std.specs.Prelude.{◌≡◌, ◌≤◌, ◌<◌, ℕ, zero, suc, ◌+◌, ◌-◌, ◌*◌, ◌/◌, ◌==◌, if◌then◌else◌, List, [], ◌∷◌, ◌++◌}
use Rattle.splittable.specs.Places.{item_count, places_on_axes}

-- so many places of a shape of these lengths, from the first on
pub record Stretch : Type 0 where
  pub lens : List ℕ
  pub first : ℕ
  pub len : ℕ

-- so many numbers from the first on
unfoldable pub numbers_from : ℕ → ℕ → List ℕ
numbers_from first zero = []
numbers_from first (suc n) = first ∷ numbers_from (suc first) n

-- the places of the items of a part, in order
abbrev pub part_places : Stretch → List ℕ
part_places part = numbers_from part.first part.len

-- the place of the last item of a part
abbrev pub last_place : Stretch → ℕ
last_place part = part.first + part.len - 1

-- how many places there are on each axis, from one item's place there to another's
abbrev pub widths : List ℕ → List ℕ → List ℕ
widths (from ∷ froms) (to ∷ tos) = (to + 1 - from) ∷ widths froms tos
widths _ _ = []

-- the length of a part's window on each axis, from the place of its first item to that of its last
abbrev pub windows_of : Stretch → List ℕ
windows_of part = widths (places_on_axes part.lens part.first) (places_on_axes part.lens (last_place part))

-- how many items lie left of the cut: the slowest axis whose window is longer than one is cut after half its window
abbrev pub left_of_cut : List ℕ → List ℕ → ℕ
left_of_cut (len ∷ lens) (window ∷ windows) =
    let slower = left_of_cut lens windows in if slower == 0 then window / 2 else len * slower
left_of_cut _ _ = 0

-- how many items the left half of a part has
unfoldable pub left_len : Stretch → ℕ
left_len part = left_of_cut part.lens (windows_of part)

abbrev pub left_half : Stretch → Stretch
left_half part = record { lens = part.lens; first = part.first; len = left_len part }

abbrev pub right_half : Stretch → Stretch
right_half part = record { lens = part.lens; first = part.first + left_len part; len = part.len - left_len part }

-- all places of a shape
abbrev pub whole_of : List ℕ → Stretch
whole_of lens = record { lens = lens; first = 1; len = item_count lens }

-- two parts are the halves of a part: they lie next to each other, they are all of it, and each has at least a third of it
pub record AreHalves (part left right : Stretch) : Type 0 where
  pub left_lens : left.lens ≡ part.lens
  pub right_lens : right.lens ≡ part.lens
  pub begins : left.first ≡ part.first
  pub next : right.first ≡ left.first + left.len
  pub together : left.len + right.len ≡ part.len
  pub left_third : part.len ≤ 3 * left.len
  pub right_third : part.len ≤ 3 * right.len

-- the places of two parts, one after the other, are those of a part
abbrev pub HavePlacesOf : Stretch → Stretch → Stretch → Type 0
HavePlacesOf part left right = part_places left ++ part_places right ≡ part_places part

-- a place lies in a part
abbrev pub HoldsPlace : Stretch → ℕ → Type 0
HoldsPlace part place = (part.first ≤ place) × (place < part.first + part.len)

-- each place of a part lies in another part
abbrev pub LiesIn : Stretch → Stretch → Type 0
LiesIn part outer = (outer.first ≤ part.first) × (part.first + part.len ≤ outer.first + outer.len)

-- a part has places of a shape of these lengths, and no others
abbrev pub LiesInShape : List ℕ → Stretch → Type 0
LiesInShape lens part = (part.lens ≡ lens) × (1 ≤ part.first) × (1 ≤ part.len) × (part.first + part.len ≤ item_count lens + 1)

-- parts that lie next to each other, from one place up to another that is not among theirs
abbrev pub AreNeighbours : ℕ → List Stretch → ℕ → Type 0
AreNeighbours from [] to = from ≡ to
AreNeighbours from (part ∷ parts) to = (part.first ≡ from) × AreNeighbours (part.first + part.len) parts to

-- What the fields of a shape and of a part keep: this project's representation.
use Rattle.std.specs.Prelude.{◌≡◌, ℕ, ◌+◌, ◌-◌, ◌*◌, ◌/◌, ◌%◌, if◌then◌else◌, nat_le, ◌≤◌, ◌<◌, ◌⊎◌, List, [], ◌∷◌, ◌++◌}
use Rattle.std.specs.Prelude.{length, take, drop, replicate, ℤ, FitsSigned}
use Rattle.std.specs.Int.{w64}
use Rattle.number_ranges.specs.Ranges.{most_items, range_item}
use Rattle.splittable.specs.Places.{item_count}
use Rattle.splittable.specs.Parts.{Stretch}

-- the lengths of one to four axes, and then 1 for each axis that is not there; few enough items
pub record IsFourAxes (lens : List ℕ) (axes : ℕ) : Type 0 where
  pub four : length lens ≡ 4
  pub some : 1 ≤ axes
  pub most : axes ≤ 4
  pub padding : drop axes lens ≡ replicate (4 - axes) 1
  pub few : item_count (take axes lens) ≤ most_items

-- each of so many items, so many steps on from a first, fits 64 bits
abbrev pub ItemsFit : ℤ → ℤ → ℕ → Type 0
ItemsFit first step count = (k : ℕ) → k < count → FitsSigned w64 (range_item first step k)

-- the lengths, with 1 for each axis that is not there
abbrev pub padded : List ℕ → List ℕ
padded lens = lens ++ replicate (4 - length lens) 1

-- Of these lengths, so many places after so many others form a box, whose window on each axis begins and ends within the
-- axis: they lie within one run of the first axis, or are whole runs of it that form a box on the other axes.
abbrev pub IsBox : List ℕ → ℕ → ℕ → Type 0
IsBox [] before n = (before ≡ 0) × (n ≡ 1)
IsBox (len ∷ lens) before n =
    (before % len + n ≤ len) ⊎ ((q : ℕ) × (m : ℕ) × (before ≡ len * q) × (n ≡ len * m) × IsBox lens q m)

-- a part: some of the places of a shape, in a box
pub record IsPart (part : Stretch) : Type 0 where
  pub from_one : 1 ≤ part.first
  pub some : 1 ≤ part.len
  pub within : part.first + part.len ≤ item_count part.lens + 1
  pub box : IsBox part.lens (part.first - 1) part.len

-- so many places from the first on are a part of a shape of these lengths, which has few enough items
abbrev pub IsSmallPart : List ℕ → ℕ → ℕ → Type 0
IsSmallPart lens first len =
    IsPart (record { lens = lens; first = first; len = len }) × (item_count lens ≤ most_items)

-- how many of the n items of a box lie left of its cut, by the lengths alone
abbrev pub cut : List ℕ → ℕ → ℕ
cut [] n = 0
cut (len ∷ lens) n = if nat_le n len then n / 2 else len * cut lens (n / len)

-- so many items share one place on the axis on which a box of n items is cut
abbrev pub IsStride : List ℕ → ℕ → ℕ → Type 0
IsStride lens n stride = (before : ℕ) → IsBox lens before n → n / stride / 2 * stride ≡ cut lens n

-- The nodes of a shape for a least part size, their depths, and the leaves from left to right.
-- Source: this project, over `halve` of SplittablesBase.jl.
use Rattle.std.specs.Prelude.{ℕ, zero, suc, ◌+◌, ◌/◌, ◌<◌, ◌≤◌, max, if◌then◌else◌, nat_le, ◌==◌, List, [], ◌∷◌, ◌++◌}
use Rattle.splittable.specs.Places.{item_count}
use Rattle.splittable.specs.Parts.{Stretch, left_half, right_half, whole_of}

-- The part is a node, so many halvings below the whole: it is the whole of a shape that has items,
-- or a half of a node that can be halved and is longer than the least part size.
pub data IsNodeAt (lens : List ℕ) (least : ℕ) : ℕ → Stretch → Type 0 where
  the_whole : 1 ≤ item_count lens → IsNodeAt lens least 0 (whole_of lens)
  the_left : {depth : ℕ} {part : Stretch} → IsNodeAt lens least depth part → 1 < part.len → least < part.len →
      IsNodeAt lens least (suc depth) (left_half part)
  the_right : {depth : ℕ} {part : Stretch} → IsNodeAt lens least depth part → 1 < part.len → least < part.len →
      IsNodeAt lens least (suc depth) (right_half part)

-- the part is a node
abbrev pub IsNode : List ℕ → ℕ → Stretch → Type 0
IsNode lens least part = ∥ ((depth : ℕ) × IsNodeAt lens least depth part) ∥₁

-- two halves of a part are nodes, where the part is a node that is longer than the least part size
abbrev pub HasNodes : List ℕ → ℕ → Stretch → Stretch → Stretch → Type 0
HasNodes lens least part left right = IsNode lens least part → least < part.len → IsNode lens least left × IsNode lens least right

-- the same for each least part size
abbrev pub HasNodesAlways : Stretch → Stretch → Stretch → Type 0
HasNodesAlways part left right = (least : ℕ) → HasNodes part.lens least part left right

-- the part is a leaf: a node that is not longer than the least part size
abbrev pub IsLeaf : List ℕ → ℕ → Stretch → Type 0
IsLeaf lens least part = IsNode lens least part × (part.len ≤ least)

-- the leaves of a part from left to right, where no leaf lies deeper than so many halvings
unfoldable pub leaves_within : ℕ → ℕ → Stretch → List Stretch
leaves_within zero least part = part ∷ []
leaves_within (suc n) least part =
    if nat_le part.len least then part ∷ [] else leaves_within n least (left_half part) ++ leaves_within n least (right_half part)

-- the leaves of a part from left to right: a part is longer than each of its halves
abbrev pub leaves_under : ℕ → Stretch → List Stretch
leaves_under least part = leaves_within part.len least part

-- the leaves of a shape from left to right
abbrev pub leaves_of : List ℕ → ℕ → List Stretch
leaves_of lens least = if item_count lens == 0 then [] else leaves_under least (whole_of lens)

-- the larger of the base and the 16,384th part of the count, rounded up
abbrev pub least_part_of : ℕ → ℕ → ℕ
least_part_of base count = max base ((count + 16383) / 16384)

-- how deep a node lies at most, where the least part size is that of `least_part_of` or more
abbrev pub most_depth : ℕ
most_depth = 24

-- and how many leaves there are at most
abbrev pub most_leaves : ℕ
most_leaves = 49151

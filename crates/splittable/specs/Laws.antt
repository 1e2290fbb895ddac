-- Laws of nodes and leaves: where they lie, how they nest, and which places they have.
-- Source: this project.
use Rattle.std.specs.Prelude.{◌≡◌, ◌≤◌, ◌<◌, ◌↔◌, ◌⊎◌, ℕ, ◌+◌, ◌-◌, List, [], ◌∷◌, ◌++◌, length, take, Contains}
use Rattle.std.specs.List.{flat_map, AllByRecursion}
use Rattle.number_ranges.specs.Ranges.{most_items}
use Rattle.splittable.specs.Places.{item_count, first_excess}
use Rattle.splittable.specs.Parts.{Stretch, part_places, whole_of, numbers_from, left_half, right_half, AreHalves, HoldsPlace}
use Rattle.splittable.specs.Parts.{LiesIn, LiesInShape, AreNeighbours}
use Rattle.splittable.specs.Nodes.{IsNodeAt, IsNode, IsLeaf, HasNodes, leaves_under, leaves_of, least_part_of, most_depth}
use Rattle.splittable.specs.Nodes.{most_leaves}

-- ---- refused shapes

-- a count is that of the shortest prefix of the lengths that has too many items
pub record IsShortestExcess (lens : List ℕ) (count : ℕ) : Type 0 where
  pub prefix : ℕ
  pub within : prefix ≤ length lens
  pub count_is : count ≡ item_count (take prefix lens)
  pub over : most_items < count
  pub shortest : (n : ℕ) → n < prefix → item_count (take n lens) ≤ most_items

-- where there are too many items, the first excess is that of the shortest prefix with too many
abbrev pub ExcessIsShortest : Type 0
ExcessIsShortest = (lens : List ℕ) → most_items < item_count lens → IsShortestExcess lens (first_excess lens)

-- ---- nodes

-- a node lies at most so many halvings below the whole
abbrev pub DepthsAreBounded : Type 0
DepthsAreBounded = (lens : List ℕ) (least base depth : ℕ) (part : Stretch) →
    least_part_of base (item_count lens) ≤ least → IsNodeAt lens least depth part → depth ≤ most_depth

-- a node has places of its shape
abbrev pub NodesLieInShape : Type 0
NodesLieInShape = (lens : List ℕ) (least : ℕ) (part : Stretch) → IsNode lens least part → LiesInShape lens part

-- a node for some least part size is one for each smaller size
abbrev pub NodesForSmallerParts : Type 0
NodesForSmallerParts = (lens : List ℕ) (less least : ℕ) (part : Stretch) →
    less ≤ least → IsNode lens least part → IsNode lens less part

-- the halves of a node are the node
abbrev pub HalvesAreTheNode : Type 0
HalvesAreTheNode = (lens : List ℕ) (least : ℕ) (part : Stretch) →
    IsNode lens least part → 1 < part.len → AreHalves part (left_half part) (right_half part)

-- and nodes, where the node is longer than the least part size
abbrev pub HalvesAreNodes : Type 0
HalvesAreNodes = (lens : List ℕ) (least : ℕ) (part : Stretch) →
    1 < part.len → HasNodes lens least part (left_half part) (right_half part)

-- two parts share a place
abbrev pub Meet : Stretch → Stretch → Type 0
Meet a b = (place : ℕ) × HoldsPlace a place × HoldsPlace b place

-- of two nodes that share a place the shorter lies in the longer
abbrev pub ShorterLiesInLonger : Type 0
ShorterLiesInLonger = (lens : List ℕ) (least : ℕ) (a b : Stretch) →
    IsNode lens least a → IsNode lens least b → Meet a b → a.len ≤ b.len → LiesIn a b

-- and, where it is shorter, in one of the longer one's halves
abbrev pub ShorterLiesInHalf : Type 0
ShorterLiesInHalf = (lens : List ℕ) (least : ℕ) (a b : Stretch) →
    IsNode lens least a → IsNode lens least b → Meet a b → a.len < b.len →
    LiesIn a (left_half b) ⊎ LiesIn a (right_half b)

-- the longer one is then longer than the least part size, so its halves are nodes
abbrev pub LongerIsHalved : Type 0
LongerIsHalved = (lens : List ℕ) (least : ℕ) (a b : Stretch) →
    IsNode lens least a → IsNode lens least b → Meet a b → a.len < b.len → least < b.len

-- a leaf lies in each node that shares a place with it
abbrev pub LeafLiesInNode : Type 0
LeafLiesInNode = (lens : List ℕ) (least : ℕ) (a b : Stretch) →
    IsLeaf lens least a → IsNode lens least b → Meet a b → LiesIn a b

-- ---- leaves of a shape

-- a part is a leaf exactly where it is one of the listed leaves
abbrev pub LeavesAreListed : Type 0
LeavesAreListed = (lens : List ℕ) (least : ℕ) (part : Stretch) →
    1 ≤ least → Contains (leaves_of lens least) part ↔ IsLeaf lens least part

-- each of the listed leaves is a leaf
abbrev pub AllAreLeaves : Type 0
AllAreLeaves = (lens : List ℕ) (least : ℕ) → 1 ≤ least → AllByRecursion (IsLeaf lens least) (leaves_of lens least)

-- the leaves lie next to each other from the first place to the last
abbrev pub LeavesAreNeighbours : Type 0
LeavesAreNeighbours = (lens : List ℕ) (least : ℕ) →
    1 ≤ least → AreNeighbours 1 (leaves_of lens least) (item_count lens + 1)

-- the places of the leaves, one after another, are those of the shape
abbrev pub LeavesAreAllPlaces : Type 0
LeavesAreAllPlaces = (lens : List ℕ) (least : ℕ) →
    1 ≤ least → flat_map part_places (leaves_of lens least) ≡ numbers_from 1 (item_count lens)

-- there are at most so many leaves
abbrev pub LeavesAreFew : Type 0
LeavesAreFew = (lens : List ℕ) (least base : ℕ) →
    1 ≤ base → least_part_of base (item_count lens) ≤ least → length (leaves_of lens least) ≤ most_leaves

-- ---- leaves of a node

-- what isn't longer than the least part size is its own only leaf
abbrev pub LeafHasItself : Type 0
LeafHasItself = (least : ℕ) (part : Stretch) → part.len ≤ least → leaves_under least part ≡ part ∷ []

-- the leaves of a longer node are those of its left half followed by those of its right half
abbrev pub LongerHasLeavesOfHalves : Type 0
LongerHasLeavesOfHalves = (lens : List ℕ) (least : ℕ) (part : Stretch) →
    IsNode lens least part → 1 ≤ least → least < part.len →
    leaves_under least part ≡ leaves_under least (left_half part) ++ leaves_under least (right_half part)

-- the leaves of a node are leaves of the shape
abbrev pub AllUnderAreLeaves : Type 0
AllUnderAreLeaves = (lens : List ℕ) (least : ℕ) (part : Stretch) →
    IsNode lens least part → 1 ≤ least → AllByRecursion (IsLeaf lens least) (leaves_under least part)

-- and lie next to each other from the node's first place to its last
abbrev pub UnderAreNeighbours : Type 0
UnderAreNeighbours = (lens : List ℕ) (least : ℕ) (part : Stretch) →
    IsNode lens least part → 1 ≤ least → AreNeighbours part.first (leaves_under least part) (part.first + part.len)

-- the leaves of a shape that has items are those of the whole
abbrev pub WholeHasLeaves : Type 0
WholeHasLeaves = (lens : List ℕ) (least : ℕ) →
    1 ≤ item_count lens → leaves_of lens least ≡ leaves_under least (whole_of lens)

-- a shape without items has none
abbrev pub EmptyHasNoLeaves : Type 0
EmptyHasNoLeaves = (lens : List ℕ) (least : ℕ) → item_count lens ≡ 0 → leaves_of lens least ≡ []

-- nodes that lie next to each other from the first place to the last have the leaves of the shape, one after another
abbrev pub NeighboursHaveAllLeaves : Type 0
NeighboursHaveAllLeaves = (lens : List ℕ) (least : ℕ) (parts : List Stretch) → 1 ≤ least →
    AllByRecursion (IsNode lens least) parts → AreNeighbours 1 parts (item_count lens + 1) →
    flat_map (leaves_under least) parts ≡ leaves_of lens least

-- ---- places of neighbours

-- so many numbers are that many
abbrev pub NumbersAreCounted : Type 0
NumbersAreCounted = (first n : ℕ) → length (numbers_from first n) ≡ n

-- so many numbers in order and as many more after them are all of them in order
abbrev pub NumbersOfNeighbours : Type 0
NumbersOfNeighbours = (first n m : ℕ) →
    numbers_from first n ++ numbers_from (first + n) m ≡ numbers_from first (n + m)

-- the places of two parts next to each other are those of the part that both are together
abbrev pub PlacesOfTwo : Type 0
PlacesOfTwo = (lens : List ℕ) (left right : Stretch) → right.first ≡ left.first + left.len →
    part_places left ++ part_places right ≡ part_places (record { lens = lens; first = left.first; len = left.len + right.len })

-- the places of any number of parts next to each other are those from one end to the other
abbrev pub PlacesOfNeighbours : Type 0
PlacesOfNeighbours = (from to : ℕ) (parts : List Stretch) →
    AreNeighbours from parts to → flat_map part_places parts ≡ numbers_from from (to - from)

-- Laws of heads: when they are refused, and which items their parts have.
-- Source: this project.
use Rattle.std.specs.Prelude.{◌≡◌, ◌≢◌, ◌≤◌, ◌<◌, ◌↔◌, ◌⊎◌, ◌+◌, ◌-◌, ℕ, true, List, ◌++◌, length, map, Option, Some, None}
use Rattle.std.specs.Prelude.{IsSome, All, Contains, slice_get, ℤ, pos}
use Rattle.number_ranges.specs.Ranges.{range_count, most_items}
use Rattle.splittable.specs.Places.{item_count}
use Rattle.splittable.specs.Laws.{IsShortestExcess}
use Rattle.splittable.specs.Parts.{Stretch, part_places, whole_of}
use Rattle.column_input.specs.Table.{Contents}
use Rattle.loop_data.specs.declared.value.Value.{Value}
use Rattle.loop_grammar.specs.declared.tree.ProgramTree.{ProgramTree}
use Rattle.loop_grammar.specs.WellFormed.{is_well_formed}
use Rattle.loop_meaning.specs.Items.{items_of, sources_of}
use Rattle.loop_items.specs.declared.refusal.HeadRefusal.{HeadRefusal}
use Rattle.loop_items.specs.declared.refusal.HeadRefusal.TheVariants as refused
use Rattle.loop_items.specs.Collected.{Collection, column, head_collected, range}
use Rattle.loop_items.specs.Heads.{Head, head_of}
use Rattle.loop_items.specs.Refusals.{axis_lens, first_head_refusal}
use Rattle.loop_items.specs.Walks.{items_from, part_items}

-- the collections of a program's first head over a table
abbrev pub collections_of : ProgramTree → Contents → List Collection
collections_of program table = head_collected program.head (sources_of program table)

-- a head has as many items as the product of its axes' lengths
abbrev pub AxesCountItems : Type 0
AxesCountItems = (program : ProgramTree) (table : Contents) → is_well_formed program ≡ true →
    item_count (axis_lens program.head (sources_of program table)) ≡ length (items_of program table)

-- ---- refusals

-- a loop may run over a collection: a range with a step and not too many numbers, a column that is there
abbrev pub MayBeGoneOver : Collection → Type 0
MayBeGoneOver (range first step last) = (step ≢ pos 0) × (range_count first step last ≤ most_items)
MayBeGoneOver (column name texts) = IsSome texts

-- a loop may run over each collection of a head, and there are not too many items
pub record HeadMayBeGoneOver (program : ProgramTree) (table : Contents) : Type 0 where
  pub collections : All MayBeGoneOver (collections_of program table)
  pub few : length (items_of program table) ≤ most_items

-- a head has no refusal exactly where a loop may run over it
abbrev pub NoneIsRefused : Type 0
NoneIsRefused = (program : ProgramTree) (table : Contents) → is_well_formed program ≡ true →
    (first_head_refusal program table ≡ None) ↔ HeadMayBeGoneOver program table

-- the line of a refusal; want of memory has none
abbrev pub line_of : HeadRefusal → Option ℕ
line_of (refused.NoSuchColumn name line) = Some line
line_of (refused.ZeroStep line) = Some line
line_of (refused.TooManyItems count line) = Some line
line_of refused.NoMemory = None

-- one of these collections is a range of so many numbers
pub record HoldsRange (collections : List Collection) (count : ℕ) : Type 0 where
  pub first : ℤ
  pub step : ℤ
  pub last : ℤ
  pub held : Contains collections (range first step last)
  pub counted : range_count first step last ≡ count

-- a head has too many items, and of its fewest first axes that have too many there are so many
pub record HasTooMany (head : Head) (count : ℕ) : Type 0 where
  pub items : most_items < length head.items
  pub first_axes : IsShortestExcess head.lens count

-- The reason of a refusal, in the collections of a head, in how long its axes are and in how many items it has: a column that
-- isn't there, a range of step 0, a range of too many numbers, or too many items.
abbrev pub IsReason : HeadRefusal → List Collection → Head → Type 0
IsReason (refused.NoSuchColumn name line) collections head = Contains collections (column name None)
IsReason (refused.ZeroStep line) collections head =
    (first : ℤ) × (last : ℤ) × Contains collections (range first (pos 0) last)
IsReason (refused.TooManyItems n line) collections head = (most_items < n) × (HoldsRange collections n ⊎ HasTooMany head n)
IsReason refused.NoMemory collections head = ⊥

-- each refusal has its reason, and the line of the `for`
abbrev pub RefusalsHaveReasons : Type 0
RefusalsHaveReasons = (program : ProgramTree) (table : Contents) (refusal : HeadRefusal) → is_well_formed program ≡ true →
    first_head_refusal program table ≡ Some refusal →
    IsReason refusal (collections_of program table) (head_of program table)

abbrev pub RefusalsHaveTheLine : Type 0
RefusalsHaveTheLine = (program : ProgramTree) (table : Contents) (refusal : HeadRefusal) →
    first_head_refusal program table ≡ Some refusal → line_of refusal ≡ Some program.head.line

-- ---- parts

-- the items of a part are the items at its places, in order
abbrev pub PartsHaveItemsOfPlaces : Type 0
PartsHaveItemsOfPlaces = (items : List Value) (part : Stretch) → 1 ≤ part.first → part.first + part.len ≤ length items + 1 →
    map Some (part_items items part) ≡ map (λ place. slice_get items (place - 1)) (part_places part)

-- the whole has all items
abbrev pub WholeHasAllItems : Type 0
WholeHasAllItems = (items : List Value) (lens : List ℕ) → item_count lens ≡ length items →
    part_items items (whole_of lens) ≡ items

-- the items of two parts next to each other, one after the other, are those from the first's place on
abbrev pub NeighboursHaveItems : Type 0
NeighboursHaveItems = (items : List Value) (left right : Stretch) → 1 ≤ left.first → right.first ≡ left.first + left.len →
    part_items items left ++ part_items items right ≡ items_from items left.first (left.len + right.len)

-- A lawful report of a fold in parts: how many leaves were run, and how many items were skipped.
-- Source: this project.
use Rattle.std.specs.Prelude.{◌≡◌, ◌↔◌, ℕ, ◌-◌, ◌<◌, ◌≤◌, nat_le, Option, Some, None, List, ◌++◌, length, IsPermutation}
use Rattle.std.specs.List.{All, Contains, count_by, sum_by}
use Rattle.splittable.specs.Parts.{Stretch, HoldsPlace, last_place}

-- how many of these leaves have their first place at or left of a place
abbrev pub leaves_up_to : ℕ → List Stretch → ℕ
leaves_up_to place leaves = count_by (λ leaf. nat_le leaf.first place) leaves

-- Each of these leaves was run or skipped, so many were run, and those that were skipped lie right of a place and have so many
-- items.
pub record LeavesSkipped (leaves : List Stretch) (place ran skipped : ℕ) : Type 0 where
  pub run : List Stretch
  pub left : List Stretch
  pub all : IsPermutation (run ++ left) leaves
  pub right : All (λ leaf. place < leaf.first) left
  pub ran_is : ran ≡ length run
  pub skipped_is : skipped ≡ sum_by (λ leaf. leaf.len) left

-- The report where the item at a place stopped or faulted: each leaf up to it was run, nothing else need be, nothing was skipped
-- exactly where every leaf was run, and what was skipped are as many leaves as weren't run, with their items.
pub record IsStoppedReport (leaves : List Stretch) (count place ran skipped : ℕ) : Type 0 where
  pub at_least : leaves_up_to place leaves ≤ ran
  pub at_most : ran ≤ length leaves
  pub few : skipped ≤ count - place
  pub none : (skipped ≡ 0) ↔ (ran ≡ length leaves)
  pub skips : LeavesSkipped leaves place ran skipped

-- the report of one worker: the leaves up to the stop were run, and all items after the leaf that holds it were skipped
pub record IsExactReport (leaves : List Stretch) (count place ran skipped : ℕ) : Type 0 where
  pub ran_is : ran ≡ leaves_up_to place leaves
  pub skipped_is : (leaf : Stretch) → Contains leaves leaf → HoldsPlace leaf place → skipped ≡ count - last_place leaf

-- A lawful report over these leaves and so many items, by so many workers, where the answer stopped or faulted at a place or
-- ran to its end.
abbrev pub IsLawfulReport : List Stretch → ℕ → ℕ → Option ℕ → ℕ → ℕ → Type 0
IsLawfulReport leaves count workers None ran skipped = (ran ≡ length leaves) × (skipped ≡ 0)
IsLawfulReport leaves count workers (Some place) ran skipped =
    IsStoppedReport leaves count place ran skipped × (workers ≡ 1 → IsExactReport leaves count place ran skipped)

-- What a seat keeps: its balance, the order of its stack, and its log.
-- Source: this project.
use Rattle.std.specs.Prelude.{◌≡◌, ◌≤◌, ◌<◌, ℕ, ◌+◌, List, [], ◌∷◌, ◌++◌, length, map, reverse, sum_by, option_to_list, ⊤}
use Rattle.std.specs.List.{AllByRecursion}
use Rattle.splittable.specs.Places.{item_count}
use Rattle.splittable.specs.Parts.{Stretch, AreNeighbours}
use Rattle.splittable.specs.Nodes.{least_part_of}
use Rattle.fold_seq.specs.declared.answers.Reduced.{Reduced}
use Rattle.part_deque.specs.Ends.{OwnerEnd, ThiefEnd}
use Rattle.piece_ledger.specs.declared.outcomes.Outcome.{Outcome}
use Rattle.piece_ledger.specs.Kept.{IsKept}
use Rattle.fold_steal.specs.declared.seats.Held.{Held}
use Rattle.fold_steal.specs.Worths.{worth}
use Rattle.fold_steal.specs.Stacks.{IsStack}

-- the parts of outcomes
abbrev pub parts_of : {S : Type 0} → List (Outcome S) → List Stretch
parts_of log = map (λ o. o.part) log

-- what was taken by ends of other deques is worth
abbrev pub stolen_worth : (ℕ → ℕ) → List ThiefEnd → ℕ
stolen_worth w thieves = sum_by (λ (t : ThiefEnd). worth w t.taken) thieves

-- Each place is as often in what was dealt and taken as in what was pushed, what is on the stack and what was logged.
abbrev pub IsBalanced : List Stretch → OwnerEnd → List ThiefEnd → List Stretch → List Stretch → Type 0
IsBalanced dealt owner thieves stack logged = (w : ℕ → ℕ) →
    worth w dealt + worth w owner.taken + stolen_worth w thieves ≡ worth w owner.pushed + worth w stack + worth w logged

-- an end is of the crew with this shape and least part size
abbrev pub IsThiefOf : List ℕ → ℕ → ThiefEnd → Type 0
IsThiefOf lens least t = (t.lens ≡ lens) × (t.least ≡ least)

-- a log whose answers may stand for anything
abbrev pub any_answer : {S : Type 0} → ℕ → ℕ → Reduced S → Type 0
any_answer first len answer = ⊤

abbrev pub IsKeptLog : {S : Type 0} → List ℕ → ℕ → List ℕ → List ℕ → List (Outcome S) → Type 0
IsKeptLog lens least reported seen log = IsKept any_answer lens least [] reported seen log

-- What one worker alone logged, has on its stack from the top down, and keeps on its deque from the last part to the first.
abbrev pub in_order : List Stretch → List Stretch → List Stretch → List Stretch
in_order logged stack kept = logged ++ (reverse stack ++ reverse kept)

-- The seat of a crew of one: nothing was stolen, and its parts lie next to each other from left to right, from the first place
-- to the last.
pub record IsAlone {S : Type 0} (lens : List ℕ) (seat : Held S) (stack : List Stretch) : Type 0 where
  pub owner_stole : seat.owner.stolen ≡ 0
  pub thieves_stole : AllByRecursion (λ (t : ThiefEnd). t.stolen ≡ 0) seat.thieves.items
  pub order : AreNeighbours 1 (in_order (parts_of seat.log) stack seat.owner.kept) (item_count lens + 1)

-- The seat of a crew with this shape and least part size keeps all that, if these parts were on its stack.
pub record IsHeldWith {S : Type 0} (lens : List ℕ) (least : ℕ) (seat : Held S) (stack : List Stretch) : Type 0 where
  pub large : least_part_of 1 (item_count lens) ≤ least
  pub owner_of : (seat.owner.lens ≡ lens) × (seat.owner.least ≡ least)
  pub thieves_of : AllByRecursion (IsThiefOf lens least) seat.thieves.items
  pub number : seat.number < length seat.thieves.items
  pub balanced : IsBalanced (option_to_list seat.dealt) seat.owner seat.thieves.items stack (parts_of seat.log)
  pub stacked : IsStack lens least stack
  pub kept : IsKeptLog lens least seat.stop.reported seat.stop.seen seat.log
  pub alone : length seat.thieves.items ≡ 1 → IsAlone lens seat stack

-- the seat keeps all that
abbrev pub IsHeld : {S : Type 0} → Held S → Type 0
IsHeld seat = IsHeldWith seat.owner.lens seat.owner.least seat seat.stack.items

-- the same with a part in hand, which lies on top of the stack
abbrev pub IsHolding : {S : Type 0} → List ℕ → ℕ → Held S → Stretch → Type 0
IsHolding lens least seat part = IsHeldWith lens least seat (seat.stack.items ++ part ∷ [])

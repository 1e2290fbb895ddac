-- The rights of a thief's end: the one by which it steals, and those that it may give away.
-- Source: this project.
use Rattle.std.specs.Prelude.{◌≡◌, ℕ, ◌-◌, ◌^◌, List, [], All}
use Rattle.crossbeam_deque.specs.Handles.{Pass, view, IsPassOf, worker_deque, worker_view}
use Rattle.splittable.specs.Parts.{Stretch}
use Rattle.crossbeam_deque.specs.declared.handles.Worker.{Worker}
use Rattle.part_deque.specs.declared.account.Account.{Account}
use Rattle.part_deque.specs.Steps.{right_weight, right_of, with_rights}

-- how many rights the thieves of one deque have together
abbrev pub all_rights : ℕ
all_rights = 1024

-- the number comes of 1 by doubling
abbrev pub IsPowerOfTwo : ℕ → Type 0
IsPowerOfTwo n = (k : ℕ) × (n ≡ 2 ^ k)

-- the account of what was done by a right
abbrev pub account_of : {A : Type 0} → Pass Stretch Account A → Account
account_of right = view right

-- a right to take steps on this deque, by which parts were stolen and none was pushed
pub record IsThiefs {A : Type 0} (deque : (ℕ × ℕ) × A) (right : Pass Stretch Account A) : Type 0 where
  pub of : IsPassOf deque right
  pub weighs : (account_of right).weight ≡ right_weight
  pub pushed : (account_of right).pushed ≡ []

-- a right on this deque, for this crew, by which nothing was done
abbrev pub IsSpare : {A : Type 0} → (ℕ × ℕ) × A → List ℕ → ℕ → Pass Stretch Account A → Type 0
IsSpare deque lens least right = IsPassOf deque right × (account_of right ≡ right_of lens least)

-- rights on this deque, for one crew, by which nothing was done
abbrev pub AreSpare : {A : Type 0} → (ℕ × ℕ) × A → List (Pass Stretch Account A) → Type 0
AreSpare deque rights = (lens : List ℕ) × (least : ℕ) × All (IsSpare deque lens least) rights

-- rights that were cut off this worker, for its crew
abbrev pub AreCut : {A P : Type 0} → Worker Stretch A Account P → List (Pass Stretch Account A) → Type 0
AreCut worker rights = All (IsSpare (worker_deque worker) (worker_view worker).lens (worker_view worker).least) rights

-- an account, before and after all rights but one were cut off it
abbrev pub LostRights : Account → Account → Type 0
LostRights old new = old ≡ with_rights new (all_rights - 1)

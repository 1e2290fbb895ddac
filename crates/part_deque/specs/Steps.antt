-- The steps of a deque: what each changes of the parts that it holds and of the account of its end, and what steps lead to.
-- Source: this project.
use Rattle.std.specs.Prelude.{◌≡◌, ℕ, suc, ◌+◌, ◌-◌, ◌*◌, ◌<◌, List, [], ◌∷◌, ◌++◌, slice_set}
use mathlib.Core.Option.{some}
use lib.ListN.{get_elem?}
use Rattle.splittable.specs.Parts.{Stretch}
use Rattle.splittable.specs.Nodes.{IsNode}
use Rattle.part_deque.specs.declared.account.Account.{Account}
use Rattle.part_deque.specs.Rule.{account, fresh, opening, spent, whole_weight}

-- the weight of a right that is not cut any more
abbrev pub right_weight : ℕ
right_weight = 2097152

-- the account after a push: the part is pushed, and kept last
abbrev pub with_pushed : Account → Stretch → Account
with_pushed v part = account v.weight v.lens v.least (v.pushed ++ part ∷ []) v.taken (v.kept ++ part ∷ []) v.stolen

-- the account after a pop that leaves so much
abbrev pub with_popped : Account → Stretch → List Stretch → Account
with_popped v part kept = account v.weight v.lens v.least v.pushed (v.taken ++ part ∷ []) kept v.stolen

-- the account after a steal
abbrev pub with_stolen : Account → Stretch → Account
with_stolen v part = account v.weight v.lens v.least v.pushed (v.taken ++ part ∷ []) v.kept (v.stolen + 1)

-- the account with so much less weight, and with so much more
abbrev pub without : Account → ℕ → Account
without v share = account (v.weight - share) v.lens v.least v.pushed v.taken v.kept v.stolen

abbrev pub heavier : Account → ℕ → Account
heavier v more = account (v.weight + more) v.lens v.least v.pushed v.taken v.kept v.stolen

-- the account with so many more rights
abbrev pub with_rights : Account → ℕ → Account
with_rights v n = heavier v (n * right_weight)

-- the account of an end that took another in
abbrev pub together : Account → Account → Account
together v w =
    account (v.weight + w.weight) v.lens v.least (v.pushed ++ w.pushed) (v.taken ++ w.taken) v.kept (v.stolen + w.stolen)

-- the account of a right by which nothing was done, and an account from which one was cut
abbrev pub right_of : List ℕ → ℕ → Account
right_of lens least = fresh right_weight lens least

abbrev pub lighter : Account → Account
lighter v = without v right_weight

-- the same, for this crew from now on
abbrev pub named : List ℕ → ℕ → Account → Account
named lens least v = account (v.weight - right_weight) lens least v.pushed v.taken v.kept v.stolen

-- the end of this number has this account, and some weight
pub record HasEnd (views : List Account) (port : ℕ) (v : Account) : Type 0 where
  pub at : get_elem? views port ≡ some v
  pub some_weight : 0 < v.weight

-- One step: the parts and the accounts before it, and after it. The owner's end is the first; it alone pushes, pops and joins,
-- and, where it has no crew yet, is named one by the cut of the first right.
pub data IsStep : List Stretch → List Account → List Stretch → List Account → Type 0 where
  a_push : {parts : List Stretch} {views : List Account} {v : Account} (part : Stretch) → HasEnd views 0 v →
      IsNode v.lens v.least part
      → IsStep parts views (parts ++ part ∷ []) (slice_set views 0 (with_pushed v part))
  a_pop : {parts : List Stretch} {views : List Account} {v : Account} (part : Stretch) (kept : List Stretch) → HasEnd views 0 v
      → v.kept ≡ kept ++ part ∷ [] → IsStep (parts ++ part ∷ []) views parts (slice_set views 0 (with_popped v part kept))
  a_steal : {parts : List Stretch} {views : List Account} {port : ℕ} {v : Account} (part : Stretch) → HasEnd views port v
      → IsStep (part ∷ parts) views parts (slice_set views port (with_stolen v part))
  a_split : {parts : List Stretch} {views : List Account} (port : ℕ) (v : Account) (share : ℕ) → get_elem? views port ≡ some v →
      0 < share → share < v.weight
      → IsStep parts views parts (slice_set views port (without v share) ++ fresh share v.lens v.least ∷ [])
  a_naming : {parts : List Stretch} {views : List Account} (lens : List ℕ) (least : ℕ) → get_elem? views 0 ≡ some opening
      → IsStep parts views parts (slice_set views 0 (named lens least opening) ++ right_of lens least ∷ [])
  a_join : {parts : List Stretch} {views : List Account} {other : ℕ} {v w : Account} → HasEnd views 0 v →
      HasEnd views (suc other) w
      → IsStep parts views parts (slice_set (slice_set views 0 (together v w)) (suc other) spent)

-- the making of a deque for a crew, and any steps after it, lead to these parts and accounts
pub data IsReached : List Stretch → List Account → Type 0 where
  the_making : (lens : List ℕ) (least : ℕ) → IsReached [] (fresh whole_weight lens least ∷ [])
  then_a_step : {parts parts' : List Stretch} {views views' : List Account} → IsReached parts views →
      IsStep parts views parts' views' → IsReached parts' views'

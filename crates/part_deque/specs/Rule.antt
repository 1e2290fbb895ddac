-- The rule of one worker's deque: what its ends have pushed and taken, beside what it holds.
-- Source: this project.
use Rattle.std.specs.Prelude.{◌≡◌, ℕ, ◌<◌, ◌≤◌, List, [], ◌∷◌, ◌++◌, length, drop, All, sum_by}
use Rattle.std.specs.List.{flat_map}
use mathlib.Core.Option.{some}
use lib.ListN.{get_elem?}
use Rattle.splittable.specs.Parts.{Stretch}
use Rattle.splittable.specs.Nodes.{IsNode}
use Rattle.as_often.specs.AsOften.{AreAsOften}
use Rattle.part_deque.specs.declared.account.Account.{Account}

-- the weight of all ends of a deque together
abbrev pub whole_weight : ℕ
whole_weight = 4294967296

-- the fact holds of the account of each end
abbrev pub Each : (Account → Type 0) → List Account → Type 0
Each P views = (port : ℕ) (v : Account) → get_elem? views port ≡ some v → P v

-- an end that pushed nothing, took nothing, stole nothing and keeps nothing
abbrev pub IsSpent : Account → Type 0
IsSpent v = (v.pushed ≡ []) × (v.taken ≡ []) × (v.stolen ≡ 0) × (v.kept ≡ [])

-- the first account is the owner's: what its pushes and pops leave
abbrev pub kept_by : List Account → List Stretch
kept_by [] = []
kept_by (v ∷ views) = v.kept

-- all parts that were pushed, and all that were taken, by whichever end
abbrev pub all_pushed : List Account → List Stretch
all_pushed views = flat_map (λ (v : Account). v.pushed) views

abbrev pub all_taken : List Account → List Stretch
all_taken views = flat_map (λ (v : Account). v.taken) views

-- how many parts were stolen, by all ends together
abbrev pub stolen_by : List Account → ℕ
stolen_by views = sum_by (λ (v : Account). v.stolen) views

-- The deque holds these parts, front first, and its ends have these accounts.
pub record DequeRule (parts : List Stretch) (views : List Account) : Type 0 where
  pub lens : List ℕ
  pub least : ℕ
  -- the pushed parts are, as often, the taken ones and those in the deque
  pub as_often : AreAsOften (all_pushed views) (all_taken views ++ parts)
  -- the deque's parts are what the owner keeps, without as many at the front as were stolen
  pub left : parts ≡ drop (stolen_by views) (kept_by views)
  pub within : stolen_by views ≤ length (kept_by views)
  pub weights : sum_by (λ (v : Account). v.weight) views ≡ whole_weight
  pub idle : Each (λ v. v.weight ≡ 0 → IsSpent v) views
  -- all ends that have weight are of one crew, and each part is a node for it
  pub crew : Each (λ v. 0 < v.weight → (v.lens ≡ lens) × (v.least ≡ least)) views
  pub nodes : All (IsNode lens least) parts
  pub pushed : Each (λ v. All (IsNode lens least) v.pushed) views

abbrev pub account : ℕ → List ℕ → ℕ → List Stretch → List Stretch → List Stretch → ℕ → Account
account weight lens least pushed taken kept stolen =
    record { weight = weight; lens = lens; least = least; pushed = pushed; taken = taken; kept = kept; stolen = stolen }

-- the account of an end that did nothing yet
abbrev pub fresh : ℕ → List ℕ → ℕ → Account
fresh weight lens least = account weight lens least [] [] [] 0

-- the account of a new deque's one end, which has no crew yet
abbrev pub opening : Account
opening = fresh whole_weight [] 0

-- the account of an end that is no more
abbrev pub spent : Account
spent = fresh 0 [] 0

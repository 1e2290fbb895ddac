-- What each step of a deque tells the end that takes it.
-- Source: this project.
use Rattle.std.specs.Prelude.{◌≡◌, ◌+◌, ◌<◌, List, ◌++◌, length}
use Rattle.std.specs.List.{AllByRecursion}
use Rattle.splittable.specs.Parts.{Stretch}
use Rattle.splittable.specs.Nodes.{IsNode}
use Rattle.as_often.specs.AsOften.{AreAsOften}
use Rattle.part_deque.specs.declared.account.Account.{Account}
use Rattle.part_deque.specs.Rule.{account, whole_weight}

-- the parts were pushed
abbrev pub Pushed : Account → List Stretch → Account → Type 0
Pushed v xs w = w ≡ account v.weight v.lens v.least (v.pushed ++ xs) v.taken (v.kept ++ xs) v.stolen

-- the parts were popped from the end of what is kept; an end that has the whole weight knows that not all of that was stolen
pub record Popped (v : Account) (xs : List Stretch) (w : Account) : Type 0 where
  pub now : w ≡ account v.weight v.lens v.least v.pushed (v.taken ++ xs) w.kept v.stolen
  pub last : v.kept ≡ w.kept ++ xs
  pub nodes : AllByRecursion (IsNode v.lens v.least) xs
  pub more : v.weight ≡ whole_weight → v.stolen < length v.kept

-- an end that has the whole weight knows that all that is kept was stolen, and that what was pushed was taken
abbrev pub KnowsAllGone : Account → Type 0
KnowsAllGone v = v.weight ≡ whole_weight → (v.stolen ≡ length v.kept) × AreAsOften v.taken v.pushed

-- one part was stolen
pub record Stolen (v : Account) (xs : List Stretch) (w : Account) : Type 0 where
  pub now : w ≡ account v.weight v.lens v.least v.pushed (v.taken ++ xs) v.kept (v.stolen + 1)
  pub nodes : AllByRecursion (IsNode v.lens v.least) xs

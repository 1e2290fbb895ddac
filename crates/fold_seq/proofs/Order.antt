-- Answers combined from left to right.
use Rattle.std.proofs.Common.{◌≡◌, ℕ, ◌+◌, ◌-◌, ◌≤◌, subst, arith}
use Rattle.fold_seq.specs.declared.answers.Reduced.{Reduced}
use Rattle.fold_seq.specs.declared.answers.Reduced.TheVariants.{Going, Stopped, Faulted}
use Rattle.fold_seq.specs.Answers.{IsStop, Combines}
use Rattle.fold_seq.specs.Standing.{MergeStands, StopStands}

-- what stopped stands for longer stretches
pub stop_longer : {S : Type 0} (stands : ℕ → ℕ → Reduced S → Type 0) → StopStands stands → (first n more : ℕ) (answer : Reduced S) →
    1 ≤ first → n ≤ more → IsStop answer → stands first n answer → stands first more answer
stop_longer {S} stands stops first n more answer one le stop h =
    let e : n + (more - n) ≡ more = omega arith in
    let P : ℕ → Type 0 = λ k. stands first k answer in
    subst P e (stops first n (more - n) answer one stop h)

-- two answers combined stand for both stretches
pub both : {S : Type 0} (stands : ℕ → ℕ → Reduced S → Type 0) (merges : S → S → S → Type 0) → MergeStands stands merges → StopStands stands →
    (first n m : ℕ) (left right whole : Reduced S) → 1 ≤ first → stands first n left → stands (first + n) m right → Combines merges left right whole → stands first (n + m) whole
both stands merges law stops first n m (Going left) right whole one h k c = law first n m left right whole one h k c
both stands merges law stops first n m (Stopped at line state) right whole one h k c = rw c (stops first n m (Stopped at line state) one tt h)
both stands merges law stops first n m (Faulted at line kind) right whole one h k c = rw c (stops first n m (Faulted at line kind) one tt h)

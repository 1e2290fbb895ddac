use Rattle.std.proofs.Common.{◌≡◌, ℕ, suc, ◌+◌, ◌-◌, ◌%◌, ◌^◌, Bool, true, false, if◌then◌else◌, sym, subst, arith}
use Rattle.fold_examples.specs.Carried.{run_sum, left_by}
use Rattle.fold_examples.proofs.carried.PlaceLoop.run.Goals as goal
use Rattle.fold_examples.proofs.carried.PlaceLoop.run.Goals.{then-self, else-self}

with_left : (sum by place total left total' : ℕ) → total ≡ sum % 2 ^ 64 → left ≡ by → total' ≡ (total + left) % 2 ^ 64 →
    (total' + place) % 2 ^ 64 ≡ (sum + (place + by)) % 2 ^ 64
with_left sum by place total left total' h l t = omega arith

alone : (sum place total total' : ℕ) → total ≡ sum % 2 ^ 64 → total' ≡ total → (total' + place) % 2 ^ 64 ≡ (sum + place) % 2 ^ 64
alone sum place total total' h t = omega arith

-- one item more
next : (carries : Bool) (first n total left total' : ℕ) → total ≡ run_sum carries first n % 2 ^ 64 → left ≡ left_by first n →
    total' ≡ (if carries then (total + left) % 2 ^ 64 else total) → (total' + (first + n)) % 2 ^ 64 ≡ run_sum carries first (suc n) % 2 ^ 64
next true first n total left total' h l t = with_left (run_sum true first n) (left_by first n) (first + n) total left total' h l t
next false first n total left total' h l t = alone (run_sum false first n) (first + n) total total' h t

pub loop-place-preserved : goal.loop-place-preserved
loop-place-preserved c =
    let n = c.loop-place.place - c.args.first in
    let more : c.loop-place.place + 1 - c.args.first ≡ suc (c.loop-place.place - c.args.first) = omega (arith, c.loop-place.auto.place) in
    let here : c.args.first + (c.loop-place.place - c.args.first) ≡ c.loop-place.place = omega (arith, c.loop-place.auto.place) in
    let total : c.if-self.total ≡ (if c.args.self.now.carries then (c.loop-place.total + c.loop-place.left) % 2 ^ 64 else c.loop-place.total) =
    elim c.if-self.branch [ then-self w ↦ rw w.if-self.true w.total-is | else-self w ↦ rw w.if-self.false w.total-is ] in
    let sum : (c.if-self.total + (c.args.first + (c.loop-place.place - c.args.first))) % 2 ^ 64 ≡ run_sum c.args.self.now.carries c.args.first (suc (c.loop-place.place - c.args.first)) % 2 ^ 64 =
    next c.args.self.now.carries c.args.first n c.loop-place.total c.loop-place.left c.if-self.total c.loop-place.invariant.0 c.loop-place.invariant.1 total in
    let P : ℕ → Type 0 = λ place. (c.if-self.total + place) % 2 ^ 64 ≡ run_sum c.args.self.now.carries c.args.first (suc (c.loop-place.place - c.args.first)) % 2 ^ 64 in
    rw more (subst P here sum, sym here)

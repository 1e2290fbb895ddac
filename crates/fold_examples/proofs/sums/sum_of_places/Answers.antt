use Rattle.std.proofs.Common.{◌≡◌, ◌+◌, ◌-◌, ◌%◌, ◌^◌, ap, arith}
use Rattle.fold_examples.specs.SumLaws.{sum_of_places-none, sum_of_places-next}
use Rattle.fold_examples.proofs.sums.sum_of_places.Goals as goal

pub loop-place-init : goal.loop-place-init
loop-place-init c = let e : c.args.first - c.args.first ≡ 0 = omega arith in rw e (sum_of_places-none c.args.first)

pub loop-place-preserved : goal.loop-place-preserved
loop-place-preserved c =
    let next : c.loop-place.place + 1 - c.args.first ≡ c.loop-place.place - c.args.first + 1 = omega (arith, c.loop-place.auto.place) in
    let here : c.args.first + (c.loop-place.place - c.args.first) ≡ c.loop-place.place = omega (arith, c.loop-place.auto.place) in
    rw (next, sum_of_places-next c.args.first (c.loop-place.place - c.args.first), here)
    (ap (λ t. (t + c.loop-place.place) % 2 ^ 64) c.loop-place.invariant)

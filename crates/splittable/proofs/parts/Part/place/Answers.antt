use Rattle.std.proofs.Common.{◌≡◌, ◌-◌, ◌≤◌, length, replicate, ap, arith}
use Rattle.splittable.specs.Parts.{Stretch}
use Rattle.splittable.specs.Places.{item_count}
use Rattle.splittable.proofs.Axes.{on_axis}
use Rattle.splittable.proofs.parts.Part.place.Goals as goal

pub returns-clause-on_axes : goal.returns-clause-on_axes
returns-clause-on_axes c = λ axis h.
    let lens : c.self.inside.shape ≡ c.args.self.now.lens = ap (λ (s : Stretch). s.lens) c.self.view_is in
    let some : 1 ≤ item_count c.self.inside.shape = omega (arith, c.self.invariant.0.from_one, c.self.invariant.0.some, c.self.invariant.0.within) in
    rw (c.places_after.ensures, ← lens)
    (on_axis c.self.inside.shape (replicate (4 - length c.self.inside.shape) 1) (c.args.k - 1) axis some (rw lens h))

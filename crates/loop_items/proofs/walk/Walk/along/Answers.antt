use Rattle.std.proofs.Common.{◌≡◌, ◌≤◌, ◌+◌, ap, ◌∙◌, arith}
use Rattle.splittable.specs.Fields.{padded}
use Rattle.splittable.specs.Places.{item_count}
use Rattle.loop_items.proofs.WalkLemmas.{on_way_at}
use Rattle.loop_items.proofs.walk.Walk.along.Goals as goal

pub invariant_of-result : goal.invariant_of-result
invariant_of-result c =
    let four : c.padded.result ≡ padded c.args.head.now.lens = c.padded.ensures ∙ ap padded (c.lens.ensures ∙ c.requires.shape) in
    let within : c.first-first.result + c.len.result ≤ item_count c.args.part.now.lens + 1 = omega (arith, c.len.ensures.within, c.first-first.ensures.value) in (
      on_way_at c.args.head.now.lens c.args.part.now.lens c.padded.result c.place.result c.first-first.result c.len.result c.requires.part four c.first-first.ensures.from_one c.len.ensures.some within c.place.ensures.value,
      c.requires.counted,
    )

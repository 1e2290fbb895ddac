use Rattle.std.proofs.Common.{◌≤◌, ◌<◌, ◌+◌, ℕ, List, length, sym, subst, ◌∙◌, arith}
use Rattle.loop_items.specs.WalkFields.{IsOnWay}
use Rattle.loop_items.proofs.WalkLemmas.{on_axes, on_four, on_way, one_taken, some_left}
use Rattle.loop_items.proofs.walk.Walk.next.Goals as goal

pub item_on-requires : goal.item_on-requires
item_on-requires c = on_axes c.self.inside.head.now.lens c.self.inside.lens c.self.inside.places c.self.inside.place c.self.inside.end c.self.invariant.0

pub invariant_of-self : goal.invariant_of-self
invariant_of-self c =
    let way = c.self.invariant.0 in
    let before : c.self.inside.place < c.self.inside.end = omega (arith, way.to) in
    let P : List ℕ → Type 0 = λ places. IsOnWay c.self.inside.head.now.lens c.self.inside.lens places (c.self.inside.place + 1) c.self.inside.end in
    (subst P (sym c.next_places-self-inside.ensures) (on_way c.self.inside.head.now.lens c.self.inside.lens c.self.inside.places c.self.inside.place c.self.inside.end way before), c.self.invariant.1)

pub returns-clause-taken : goal.returns-clause-taken
returns-clause-taken c =
    let way = c.self.invariant.0 in
    let before : c.self.inside.place < c.self.inside.end = omega (arith, way.to) in
    let high : c.self.inside.place ≤ length c.self.inside.head.now.items = omega (arith, before, way.within, c.self.invariant.1) in
    sym c.self.view_is
    ∙ one_taken c.self.inside.head.now.items c.in_ok-item.item c.self.inside.place c.self.inside.end way.from before
    (c.in_ok-item.ensures c.self.inside.place way.from high (on_four c.self.inside.head.now.lens c.self.inside.lens c.self.inside.places c.self.inside.place c.self.inside.end way))

-- before its end a walk has an item
pub returns-in_err-item-clause-ended : goal.returns-in_err-item-clause-ended
returns-in_err-item-clause-ended c none =
    let way = c.self.invariant.0 in
    let before : c.self.inside.place < c.self.inside.end = omega (arith, way.to) in
    absurd (some_left c.self.inside.head.now.items c.self.inside.place c.self.inside.end way.from before (omega (arith, way.within, c.self.invariant.1)) (c.self.view_is ∙ none))

pub returns-clause-ended : goal.returns-clause-ended
returns-clause-ended c none =
    let way = c.self.invariant.0 in
    let before : c.self.inside.place < c.self.inside.end = omega (arith, way.to) in
    absurd (some_left c.self.inside.head.now.items c.self.inside.place c.self.inside.end way.from before (omega (arith, way.within, c.self.invariant.1)) (c.self.view_is ∙ none))

use Rattle.std.proofs.Common.{List, ◌++◌, ◌≤◌, ◌^◌, Result, Ok, Err, IfOk, length, arith, length-append}
use Rattle.reducer_tower.specs.declared.named.Named.{Named}
use Rattle.reducer_tower.specs.declared.row.Emitted.{Emitted}
use Rattle.reducer_tower.specs.declared.row.RowState.{RowState}
use Rattle.reducer_tower.specs.declared.state.TowerState.{TowerState}
use Rattle.reducer_tower.specs.Rows.{RowStands, StandWithStarts, starts_of}
use Rattle.tower_tests.proofs.tests.rows.fold_with_starts.Goals as goal

-- states that got their start values stand for some list
started : {E : Type 0} (towers : List Named) (before : List TowerState) (inputs : List Emitted) (result : Result RowState E) →
    RowStands towers before inputs → IfOk result (λ whole. StandWithStarts towers before whole.states.items) →
    IfOk result (λ state. (xs : List Emitted) × RowStands towers state.states.items xs)
started towers before inputs (Ok state) stands starts = (starts_of towers ++ inputs, starts inputs stands)
started towers before inputs (Err e) stands starts = tt

pub with_starts-requires : goal.with_starts-requires
with_starts-requires g c =
    let left = c.args.left.items in
    let right = c.args.right.items in
    let few : length (left ++ right) ≤ 2 ^ 61 = omega (arith, length-append left right, c.in_ok-before.ensures.few, c.in_ok-after.ensures.few) in
    (left ++ right, c.in_ok-state.ensures.stands left right c.in_ok-before.ensures.stands c.in_ok-after.ensures.stands, few)

pub returns : goal.returns
returns g c =
    let left = c.args.left.items in
    let right = c.args.right.items in
    started c.args.row.now.towers.items c.in_ok-state.state.states.items (left ++ right) c.with_starts.result
    (c.in_ok-state.ensures.stands left right c.in_ok-before.ensures.stands c.in_ok-after.ensures.stands) c.with_starts.ensures

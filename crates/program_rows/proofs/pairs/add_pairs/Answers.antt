use Rattle.std.proofs.Common.{◌∷◌, [], ◌++◌, ◌<◌, length, sym, ap, subst, ◌∙◌, append_assoc, append-nil, length-append, arith}
use Rattle.std.specs.Vec.Iter.{drain_items}
use Rattle.reducer_tower.specs.Rows.{number_of}
use Rattle.program_rows.specs.Pairs.{TakeBehind, input_for, numbered}
use Rattle.program_rows.proofs.PairLemmas.{numbered-push, room_left, take_both}
use Rattle.program_rows.proofs.pairs.add_pairs.Goals as goal

-- one pair more is one of those for which there is room
pub add_pair-requires-clause-room : goal.add_pair-requires-clause-room
add_pair-requires-clause-room c =
    let done = c.loop-pair.yielded in
    let left = drain_items c.loop-pair.pair-iterator in
    let less : length done < length c.args.pairs.now = omega (arith, ap length c.loop-pair.invariant.rest, length-append done left, ap length c.in-Some.ensures.steps.0) in
    room_left c.args.row.now.towers.items c.args.state.now c.loop-pair.state c.args.pairs.now done c.requires.room c.loop-pair.invariant.states less

-- its input is in the states, behind those of the pairs before
pub loop-pair-preserved : goal.loop-pair-preserved
loop-pair-preserved c =
    let row = c.args.row.now.towers.items in
    let done = c.loop-pair.yielded in
    let pair = c.in-Some.pair in
    record {
      rest =
          append_assoc done (pair ∷ []) (drain_items c.next.new.self)
          ∙ ap (λ pairs. done ++ pairs) (sym c.in-Some.ensures.steps.0)
          ∙ c.loop-pair.invariant.rest;
      states = take_both row c.args.state.now c.loop-pair.state c.add_pair.new.state (numbered row done) (input_for (number_of pair.name row) pair.input) _ c.loop-pair.invariant.states c.in_ok-add_pair.ensures (numbered-push row done pair);
    }

-- no pair is left
pub returns-clause-states : goal.returns-clause-states
returns-clause-states c =
    let row = c.args.row.now.towers.items in
    let done = c.loop-pair.yielded in
    let all = sym (append-nil done) ∙ ap (λ pairs. done ++ pairs) (sym c.in-None.ensures.steps.0) ∙ c.loop-pair.invariant.rest in
    subst (λ pairs. TakeBehind row c.args.state.now c.loop-pair.state (numbered row pairs)) all c.loop-pair.invariant.states

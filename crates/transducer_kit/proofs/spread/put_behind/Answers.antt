use Rattle.std.proofs.Common.{◌∷◌, [], ◌++◌, sym, ap, ◌∙◌, append_assoc, append-nil}
use Rattle.std.specs.Vec.Iter.{drain_items}
use Rattle.transducer_kit.proofs.spread.put_behind.Goals as goal

-- one pair more
pub loop-pair-preserved : goal.loop-pair-preserved
loop-pair-preserved c =
    let done = c.loop-pair.yielded in
    let pair = c.in-Some.pair in
    record {
      rest =
          append_assoc done (pair ∷ []) (drain_items c.next.new.self)
          ∙ ap (λ pairs. done ++ pairs) (sym c.in-Some.ensures.steps.0)
          ∙ c.loop-pair.invariant.rest;
      pairs =
          c.in_ok-push.ensures.ok ∙ ap (λ pairs. pairs ++ pair ∷ []) c.loop-pair.invariant.pairs
          ∙ append_assoc c.args.pairs.now done (pair ∷ []);
    }

-- no pair is left
pub returns : goal.returns
returns c =
    let done = c.loop-pair.yielded in
    let all = sym (append-nil done) ∙ ap (λ pairs. done ++ pairs) (sym c.in-None.ensures.steps.0) ∙ c.loop-pair.invariant.rest in
    c.loop-pair.invariant.pairs ∙ ap (λ pairs. c.args.pairs.now ++ pairs) all

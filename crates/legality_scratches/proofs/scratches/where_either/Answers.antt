use Rattle.std.proofs.Common.{◌++◌, sym, ap, ◌∙◌, append-nil, inl, inr}
use Rattle.legality_scratches.proofs.EndedLists.{either_no_right, either_no_left}
use Rattle.legality_scratches.proofs.scratches.where_either.Goals as goal

-- one of the two lists has ended
pub returns : goal.returns
returns c =
    let xs = c.loop-mark.mark-iterator.a.rest.now in
    let ys = c.loop-mark.mark-iterator.b.rest.now in
    elim (c.in-None.ensures.steps) [
      | inl h ↦ sym (append-nil c.loop-mark.met) ∙ ap (λ l. c.loop-mark.met ++ l) (sym (either_no_left xs ys h.1.0)) ∙ c.loop-mark.invariant
      | inr h ↦ sym (append-nil c.loop-mark.met) ∙ ap (λ l. c.loop-mark.met ++ l) (sym (either_no_right xs ys h.1.0)) ∙ c.loop-mark.invariant
    ]

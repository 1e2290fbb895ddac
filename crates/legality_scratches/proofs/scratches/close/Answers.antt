use Rattle.std.proofs.Common.{◌++◌, sym, ap, ◌∙◌, append-nil, inl, inr}
use Rattle.legality_scratches.proofs.EndedLists.{close_no_marks, close_no_names}
use Rattle.legality_scratches.proofs.scratches.close.Goals as goal

-- one of the two lists has ended
pub returns : goal.returns
returns c =
    let xs = c.loop-other.other-iterator.a.rest.now in
    let ys = c.loop-other.other-iterator.b.rest.now in
    elim (c.in-None.ensures.steps) [
      | inl h ↦ sym (append-nil c.loop-other.closed) ∙ ap (λ l. c.loop-other.closed ++ l) (sym (close_no_names xs ys c.args.name.now h.1.0)) ∙ c.loop-other.invariant
      | inr h ↦ sym (append-nil c.loop-other.closed) ∙ ap (λ l. c.loop-other.closed ++ l) (sym (close_no_marks xs ys c.args.name.now h.1.0)) ∙ c.loop-other.invariant
    ]

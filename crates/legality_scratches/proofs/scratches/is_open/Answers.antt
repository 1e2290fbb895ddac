use Rattle.std.proofs.Common.{sym, ◌∙◌, inl, inr}
use Rattle.legality_scratches.proofs.EndedLists.{none_marked, none_named}
use Rattle.legality_scratches.proofs.scratches.is_open.Goals as goal

-- one of the two lists has ended
pub returns : goal.returns
returns c =
    let xs = c.loop-other.other-iterator.a.rest.now in
    let ys = c.loop-other.other-iterator.b.rest.now in
    elim (c.in-None.ensures.steps) [
      | inl h ↦ sym (c.loop-other.invariant ∙ none_named xs ys c.args.name.now h.1.0)
      | inr h ↦ sym (c.loop-other.invariant ∙ none_marked xs ys c.args.name.now h.1.0)
    ]

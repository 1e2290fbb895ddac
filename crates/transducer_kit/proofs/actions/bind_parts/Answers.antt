use Rattle.std.proofs.Common.{◌≡◌, sym, ◌∙◌, inl, inr}
use Rattle.loop_meaning.specs.Statements.{with_parts}
use Rattle.loop_meaning.proofs.PatternLemmas.{no_names, no_parts}
use Rattle.transducer_kit.proofs.actions.bind_parts.Goals as goal

-- one of the two lists has ended
pub returns : goal.returns
returns c =
    let l = c.loop-name in
    let ended : l.env ≡ with_parts l.env l.name-iterator.a.rest.now l.name-iterator.b.rest.now =
    elim (c.in-None.ensures.steps) [
      | inl h ↦ sym (no_names l.env l.name-iterator.a.rest.now l.name-iterator.b.rest.now h.1.0)
      | inr h ↦ sym (no_parts l.env l.name-iterator.a.rest.now l.name-iterator.b.rest.now h.1.0)
    ] in
    ended ∙ l.invariant

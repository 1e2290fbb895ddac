use Rattle.std.proofs.Common.{sym, ◌∙◌, inl, inr}
use Rattle.loop_meaning.proofs.PatternLemmas.{no_names, no_parts}
use Rattle.loop_meaning.proofs.statements.with_parts.Goals as goal

-- one of the two lists has ended
pub returns : goal.returns
returns c =
    elim (c.in-None.ensures.steps) [
      | inl h ↦ sym (no_names c.loop-name.names c.loop-name.name-iterator.a.rest.now c.loop-name.name-iterator.b.rest.items h.1.0) ∙ c.loop-name.invariant
      | inr h ↦ sym (no_parts c.loop-name.names c.loop-name.name-iterator.a.rest.now c.loop-name.name-iterator.b.rest.items (sym c.loop-name.name-iterator.b.rest.ok.0 ∙ h.1.0)) ∙ c.loop-name.invariant
    ]

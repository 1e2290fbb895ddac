-- Outputs one after another, with the pairs of what left each behind those before.
use Rattle.std.proofs.Common.{◌≡◌, List, ◌++◌, refl, sym, ap, subst, ◌∙◌, append_assoc, append-nil}
use Rattle.loop_meaning.specs.declared.steps.Pair.{Pair}
use Rattle.chain_stages.specs.declared.step_end.StepEnd.{StepEnd}
use Rattle.chain_stages.specs.declared.step_end.StepEnd.TheVariants.{Going, Ended, Fault}
use Rattle.chain_stages.specs.declared.element.Element.{Element}
use Rattle.chain_stages.specs.Chains.{after_end, followed_by}
use Rattle.chain_stages.specs.Elements.{emitted_by}
use Rattle.chain_stages.specs.Stages.{Output, alone, nothing, output}
use Rattle.chain_stages.proofs.ChainLemmas.{emitted-append}
use Rattle.transducer_kit.specs.Steps.{Emits, unless_ended}

-- one output behind another that came to no end
pub emits_both : (first more : Output) (before between after : List Pair) (end : StepEnd) →
    Emits first before Going between → Emits more between end after → Emits (followed_by first more) before end after
emits_both first more before between after end f g =
    subst (λ (o : Output). Emits o before end after) going (record {
      ended = g.ended;
      pairs =
          g.pairs ∙ ap (λ pairs. pairs ++ emitted_by more.elements) f.pairs
          ∙ append_assoc before (emitted_by first.elements) (emitted_by more.elements)
          ∙ ap (λ pairs. before ++ pairs) (sym (emitted-append first.elements more.elements));
    })
  where
    going : output (first.elements ++ more.elements) more.end ≡ followed_by first more
    going = ap (λ (end : StepEnd). after_end end first more) f.ended

-- an output that came to an end is followed by nothing
pub emits_over : (first more : Output) (before after : List Pair) (end : StepEnd) → (end ≡ Going → ⊥) →
    Emits first before end after → Emits (followed_by first more) before end after
emits_over first more before after Going apart f = absurd (apart refl)
emits_over first more before after (Ended line) apart f = subst (λ (o : Output). Emits o before (Ended line) after) (ap (λ (end : StepEnd). after_end end first more) f.ended) f
emits_over first more before after (Fault line kind) apart f = subst (λ (o : Output). Emits o before (Fault line kind) after) (ap (λ (end : StepEnd). after_end end first more) f.ended) f

pub emits_nothing : (last : StepEnd) (pairs : List Pair) → Emits (nothing last) pairs last pairs
emits_nothing last pairs = record { ended = refl; pairs = sym (append-nil pairs) }

-- an end after an output
pub emits_end : (first : Output) (before after : List Pair) (end last : StepEnd) →
    Emits first before end after → Emits (followed_by first (nothing last)) before (unless_ended end last) after
emits_end first before after Going last f = emits_both first (nothing last) before after after last f (emits_nothing last after)
emits_end first before after (Ended line) last f = emits_over first (nothing last) before after (Ended line) (λ e. cc) f
emits_end first before after (Fault line kind) last f = emits_over first (nothing last) before after (Fault line kind) (λ e. cc) f

-- the pairs of an element are what it gives alone
pub emits_alone : (e : Element) (before after : List Pair) → after ≡ before ++ e.emitted → Emits (alone e) before Going after
emits_alone e before after is = record { ended = refl; pairs = is ∙ ap (λ pairs. before ++ pairs) (sym (append-nil e.emitted)) }

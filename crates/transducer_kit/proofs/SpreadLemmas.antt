-- The elements for the items of an inner range, one after another.
use Rattle.std.proofs.Common.{◌≡◌, ℕ, ◌+◌, ◌<◌, ◌≤◌, true, false, List, [], ◌∷◌, map, drop, Result, Ok, Err, true≢false, refl, sym, ap, subst, ◌∙◌, arith}
use Rattle.std.specs.Prelude.{ℤ, IfOk}
use Rattle.std.proofs.Math.Nat.{mul-le-mul}
use Rattle.std.proofs.lemmas.List.{drop_all}
use Rattle.number_ranges.specs.Ranges.{range_item}
use Rattle.loop_meaning.specs.declared.steps.Pair.{Pair}
use Rattle.loop_values.specs.InnerItems.{items_of}
use Rattle.loop_meaning.proofs.HeadLemmas.{length-items, one_item}
use Rattle.chain_stages.specs.declared.step_end.StepEnd.{StepEnd}
use Rattle.chain_stages.specs.declared.step_end.StepEnd.TheVariants.{Going, Ended, Fault}
use Rattle.chain_stages.specs.declared.element.Element.{Element}
use Rattle.chain_stages.specs.declared.stages.Stage.{Stage}
use Rattle.chain_stages.specs.Chains.{chain_output, followed_by}
use Rattle.chain_stages.specs.Stages.{Output, alone, nothing, output, spread}
use Rattle.transducer_kit.specs.Steps.{Emits, end_is_going, unless_ended}
use Rattle.transducer_kit.specs.Enters.{Enters}
use Rattle.chain_stages.proofs.ChainLemmas.{chain_two, chain_nothing}
use Rattle.transducer_kit.proofs.EmitLemmas.{emits_both, emits_end, emits_nothing, emits_over}

-- the elements for the items from one on
abbrev pub spread_from : List ℕ → Element → ℕ → List Element
spread_from name e k = map (spread name e) (drop k (items_of e.inner))

abbrev pub spread_at : List ℕ → Element → ℕ → Element
spread_at name e k = spread name e (range_item e.inner.first e.inner.step k)

module _ (stages : List Stage) (name : List ℕ) (e : Element) where
  abbrev from : ℕ → Output
  from k = chain_output stages (output (spread_from name e k) Going)

  abbrev here : ℕ → Output
  here k = chain_output stages (alone (spread_at name e k))

  -- the next element, and then those that are left
  next : (k : ℕ) → k < e.inner.count → from k ≡ followed_by (here k) (from (k + 1))
  next k h =
      ap (λ items. chain_output stages (output (map (spread name e) items) Going)) (one_item e.inner k h)
      ∙ chain_two stages (spread_at name e k ∷ []) (spread_from name e (k + 1)) Going

  -- What is emitted of the first elements, so many, with what the others give is what all give: whatever the others come to.
  pub record Before (k : ℕ) (before now : List Pair) : Type 0 where
    pub told : (end : StepEnd) (after : List Pair) → Emits (from k) now end after → Emits (from 0) before end after

  pub at_first : (before : List Pair) → Before 0 before before
  at_first before = record { told = λ end after f. f }

  -- one more came to no end
  pub one_more : (k : ℕ) (before now after : List Pair) → k < e.inner.count → Before k before now → Emits (here k) now Going after → Before (k + 1) before after
  one_more k before now after h b f = record {
    told = λ end last g. b.told end last (subst (λ (o : Output). Emits o now end last) (sym (next k h)) (emits_both (here k) (from (k + 1)) now after last end f g));
  }

  -- it came to an end, which is that of all
  pub ends_there : (k : ℕ) (before now after : List Pair) (end : StepEnd) → k < e.inner.count → Before k before now → (end ≡ Going → ⊥) → Emits (here k) now end after → Emits (from 0) before end after
  ends_there k before now after end h b apart f = b.told end after (subst (λ (o : Output). Emits o now end after) (sym (next k h)) (emits_over (here k) (from (k + 1)) now after end apart f))

  none_left : (k : ℕ) → e.inner.count ≤ k → from k ≡ nothing Going
  none_left k h =
      ap (λ items. chain_output stages (output (map (spread name e) items) Going)) (drop_all k (items_of e.inner) (omega (arith, length-items e.inner)))
      ∙ chain_nothing stages Going

  -- no element is left
  pub ends_last : (k : ℕ) (before now : List Pair) → e.inner.count ≤ k → Before k before now → Emits (from 0) before Going now
  ends_last k before now h b = b.told Going now (subst (λ (o : Output). Emits o now Going now) (sym (none_left k h)) (emits_nothing Going now))

  same_end : (end : StepEnd) → unless_ended end Going ≡ end
  same_end Going = refl
  same_end (Ended line) = refl
  same_end (Fault line kind) = refl

  -- the last element's end is that of all
  pub last_one : (k : ℕ) (before now after : List Pair) (end : StepEnd) → k + 1 ≡ e.inner.count → Before k before now → Emits (here k) now end after → Emits (from 0) before end after
  last_one k before now after end h b f =
      let less : k < e.inner.count = omega (arith, h) in
      let over : e.inner.count ≤ k + 1 = omega (arith, h) in
      b.told end after
      (subst (λ (o : Output). Emits o now end after) (sym (next k less ∙ ap (followed_by (here k)) (none_left (k + 1) over)))
      (subst (λ (x : StepEnd). Emits (followed_by (here k) (nothing Going)) now x after) (same_end end) (emits_end (here k) now after end Going f)))

-- ---- as the code has it

pub went_on : (end : StepEnd) → end_is_going end ≡ true → end ≡ Going
went_on Going e = refl
went_on (Ended line) e = absurd (cc (e))
went_on (Fault line kind) e = absurd (cc (e))

pub not_going : (end : StepEnd) → end_is_going end ≡ false → end ≡ Going → ⊥
not_going end e is = absurd (true≢false (sym (ap end_is_going is) ∙ e))

-- an element of a `Cat` may enter the stages after it
pub spread_enters : (name : List ℕ) (e : Element) (item : ℤ) → 1 ≤ e.inner.count → Enters true e → Enters false (spread name e item)
spread_enters name e item some h = record { least = mul-le-mul h.least some; most = h.room refl; items = h.items; room = λ no. absurd (cc (no)) }

pub ok_map : {T E : Type 0} (r : Result T E) (P Q : T → Type 0) → ((x : T) → P x → Q x) → IfOk r P → IfOk r Q
ok_map (Ok x) P Q f h = f x h
ok_map (Err e) P Q f h = h

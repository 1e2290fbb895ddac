-- One element through the stages, one after another.
use Rattle.std.proofs.Common.{◌≡◌, ℕ, suc, ◌+◌, ◌<◌, Bool, true, false, List, [], ◌∷◌, length, map, drop, get_or, Option, Some, None, refl, sym, ap, subst, ◌∙◌, add-one}
use Rattle.std.specs.Prelude.{◌&&◌}
use Rattle.std.proofs.Math.Seq.{drop-cons}
use Rattle.loop_meaning.specs.declared.steps.Pair.{Pair}
use Rattle.chain_stages.specs.declared.step_end.StepEnd.{StepEnd}
use Rattle.chain_stages.specs.declared.step_end.StepEnd.TheVariants.{Going}
use Rattle.chain_stages.specs.declared.element.Element.{Element}
use Rattle.chain_stages.specs.declared.stages.Stage.{Stage}
use Rattle.chain_stages.specs.declared.stages.Stage.TheVariants.{Map, MapSplat, Filter, KeepSomething, Cat, ReduceIf}
use Rattle.chain_stages.specs.Chains.{chain_output, followed_by}
use Rattle.chain_stages.specs.Cats.{cat_name, cats_follow, is_inner, may_follow}
use Rattle.transducer_kit.specs.Enters.{Enters, MayEnter}
use Rattle.loop_values.specs.InnerItems.{items_of}
use Rattle.chain_stages.specs.Stages.{Output, alone, nothing, output, spread, through}
use Rattle.transducer_kit.specs.Steps.{Emits, let_through, unless_ended}
use Rattle.chain_stages.proofs.ChainLemmas.{chain_alone, chain_end, chain_nothing}
use Rattle.transducer_kit.proofs.EmitLemmas.{emits_end, emits_nothing}

-- ---- the stages from one on

pub from_stage : (stages : List Stage) (at : ℕ) (stage : Stage) → at < length stages → stage ≡ get_or stages at stage → drop at stages ≡ stage ∷ drop (at + 1) stages
from_stage stages at stage h e = rw add-one (drop-cons stages at stage h ∙ ap (λ (s : Stage). s ∷ drop (suc at) stages) (sym e))

-- ---- what may enter

both_true : (a b : Bool) → (a && b) ≡ true → (a ≡ true) × (b ≡ true)
both_true true b e = (refl, e)
both_true false b e = absurd (cc (e))

pub enters_any : (after_inner : Bool) (e : Element) → Enters after_inner e → Enters false e
enters_any after_inner e h = record { least = h.least; most = h.most; items = h.items; room = λ no. absurd (cc (no)) }

-- what enters a stage may be taken by it
pub enters_stage : (stages : List Stage) (e : Element) → MayEnter stages e → Enters false e
enters_stage stages e (after_inner, follow, h) = enters_any after_inner e h

-- what a stage lets through may enter the stages after it
pub enters_next : (stages : List Stage) (stage : Stage) (rest : List Stage) (e y : Element) → stages ≡ stage ∷ rest → MayEnter stages e → Enters (is_inner stage) y → MayEnter rest y
enters_next stages stage rest e y is (after_inner, follow, h) next =
    (is_inner stage, (both_true (may_follow after_inner stage) (cats_follow (is_inner stage) rest) (subst (λ s. cats_follow after_inner s ≡ true) is follow)).1, next)

-- a `Cat` comes after what sets the inner range
cat_enters : (after_inner : Bool) (stage : Stage) (name : List ℕ) (rest : List Stage) (e : Element) → cat_name stage ≡ Some name → cats_follow after_inner (stage ∷ rest) ≡ true → Enters after_inner e → Enters true e × (cats_follow false rest ≡ true)
cat_enters true (Cat line n) name rest e is follow h = (h, follow)
cat_enters false (Cat line n) name rest e is follow h = absurd (cc (follow))
cat_enters after_inner (Map line action) name rest e is follow h = absurd (cc (is))
cat_enters after_inner (MapSplat line names source) name rest e is follow h = absurd (cc (is))
cat_enters after_inner (Filter line test) name rest e is follow h = absurd (cc (is))
cat_enters after_inner (KeepSomething line n x) name rest e is follow h = absurd (cc (is))
cat_enters after_inner (ReduceIf line test) name rest e is follow h = absurd (cc (is))

pub enters_cat : (stages : List Stage) (stage : Stage) (name : List ℕ) (rest : List Stage) (e : Element) → stages ≡ stage ∷ rest → cat_name stage ≡ Some name → MayEnter stages e → Enters true e × (cats_follow false rest ≡ true)
enters_cat stages stage name rest e is n (after_inner, follow, h) = cat_enters after_inner stage name rest e n (subst (λ s. cats_follow after_inner s ≡ true) is follow) h

-- ---- one element

-- before stages, what the first of them lets through is before the others
pub leaves : (stages : List Stage) (stage : Stage) (rest : List Stage) (e : Element) (out : Output) → stages ≡ stage ∷ rest → out ≡ through stage e →
    chain_output stages (alone e) ≡ chain_output rest out
leaves stages stage rest e out is lets = ap (λ (s : List Stage). chain_output s (alone e)) is ∙ chain_alone stage rest e ∙ ap (chain_output rest) (sym lets)

module _ (stages : List Stage) (stage : Stage) (rest : List Stage) (e : Element) (is : stages ≡ stage ∷ rest) where
  -- where the stage lets no element through
  pub emits_none : (pairs : List Pair) (last : StepEnd) → let_through None last ≡ through stage e → Emits (chain_output stages (alone e)) pairs last pairs
  emits_none pairs last lets =
      subst (λ (o : Output). Emits o pairs last pairs) (sym (leaves stages stage rest e (nothing last) is lets ∙ chain_nothing rest last)) (emits_nothing last pairs)

  -- where it lets one through
  one : (y : Element) (last : StepEnd) → let_through (Some y) last ≡ through stage e → chain_output stages (alone e) ≡ followed_by (chain_output rest (alone y)) (nothing last)
  one y last lets = leaves stages stage rest e (output (y ∷ []) last) is lets ∙ chain_end rest (y ∷ []) last

  pub emits_one : (y : Element) (before after : List Pair) (end last : StepEnd) → let_through (Some y) last ≡ through stage e →
      Emits (chain_output rest (alone y)) before end after → Emits (chain_output stages (alone e)) before (unless_ended end last) after
  emits_one y before after end last lets f =
      subst (λ (o : Output). Emits o before (unless_ended end last) after) (sym (one y last lets)) (emits_end (chain_output rest (alone y)) before after end last f)

-- ---- a `Cat`

cat_through : (stage : Stage) (name : List ℕ) (e : Element) → cat_name stage ≡ Some name → output (map (spread name e) (items_of e.inner)) Going ≡ through stage e
cat_through (Cat line n) name e is = ap (λ m. output (map (spread m e) (items_of e.inner)) Going) (same is)
  where
    same : ◌≡◌ {A = Option (List ℕ)} (Some n) (Some name) → name ≡ n
    same eq = cc
cat_through (Map line action) name e is = absurd (cc (is))
cat_through (MapSplat line names source) name e is = absurd (cc (is))
cat_through (Filter line test) name e is = absurd (cc (is))
cat_through (KeepSomething line n x) name e is = absurd (cc (is))
cat_through (ReduceIf line test) name e is = absurd (cc (is))

-- what the elements of a `Cat` emit is what the stages from it on do
pub emits_cat : (stages : List Stage) (stage : Stage) (name : List ℕ) (rest : List Stage) (e : Element) → stages ≡ stage ∷ rest → cat_name stage ≡ Some name →
    (before after : List Pair) (end : StepEnd) → Emits (chain_output rest (output (map (spread name e) (items_of e.inner)) Going)) before end after →
    Emits (chain_output stages (alone e)) before end after
emits_cat stages stage name rest e is cat before after end f =
    let each = output (map (spread name e) (items_of e.inner)) Going in
    subst (λ (o : Output). Emits o before end after) (sym (leaves stages stage rest e each is (cat_through stage name e cat))) f

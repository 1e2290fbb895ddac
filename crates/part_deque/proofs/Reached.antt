-- Steps keep the rule, and what the rule says of the owner with the whole weight.
use Rattle.std.proofs.Common.{◌≡◌, ◌≢◌, ℕ, suc, List, [], ◌∷◌, ◌++◌, length, take, drop, set, sum_by, length-append, refl, sym, ap, ◌∙◌, subst, arith}
use Rattle.std.proofs.lemmas.List.Sums.{sum_by-append}
use lib.Seq.{take-append_seam}
use mathlib.Core.Option.{some, some-ne-none}
use lib.ListN.{get_elem?}
use Rattle.splittable.specs.Parts.{Stretch}
use Rattle.part_deque.specs.declared.account.Account.{Account}
use Rattle.part_deque.specs.Rule.{DequeRule, whole_weight, kept_by, stolen_by}
use Rattle.part_deque.specs.Steps.{with_popped, together, IsStep, a_push, a_pop, a_steal, a_split, a_naming, a_join, IsReached, the_making, then_a_step}
use Rattle.part_deque.specs.Laws.{KnowsAll}
use Rattle.part_deque.proofs.Views.{all_is_one, kept_own}
use Rattle.part_deque.proofs.Keeps.{weighed, all_stolen, pushes, pops, takes, shares, opens, merges, makes}

-- of two lists with one more the rests are one
same_rest : (xs ys : List Stretch) (x : Stretch) → xs ++ x ∷ [] ≡ ys ++ x ∷ [] → xs ≡ ys
same_rest xs ys x e =
    let len : length xs ≡ length ys = (let l : length (xs ++ x ∷ []) ≡ length (ys ++ x ∷ []) = ap length e in omega (arith, length-append xs (x ∷ []), length-append ys (x ∷ []))) in
    sym (take-append_seam xs (x ∷ [])) ∙ ap (take (length xs)) e ∙ ap (λ (n : ℕ). take n (ys ++ x ∷ [])) len ∙ take-append_seam ys (x ∷ [])

-- an end but the first is where it was when the first changes
beside : (views : List Account) (other : ℕ) (both w : Account) → get_elem? views (suc other) ≡ some w → get_elem? (set views 0 both) (suc other) ≡ some w
beside [] other both w e = absurd (some-ne-none w (sym e))
beside (x ∷ xs) other both w e = e

not_first : (other : ℕ) → suc other ≢ 0
not_first other e = absurd (omega arith)

pub step_keeps : (parts parts' : List Stretch) (views views' : List Account) → IsStep parts views parts' views' → DequeRule parts views → DequeRule parts' views'
step_keeps parts _ views _ (a_push {v = v} part h node) d =
    let r = pushes v 0 part refl h.some_weight node parts views d h.at in
    subst (λ u. DequeRule (parts ++ part ∷ []) (set views 0 u)) r.2 r.1
step_keeps _ _ views _ (a_pop {parts = parts} {v = v} part kept h last) d =
    let r = pops v 0 refl h.some_weight part parts views d h.at in
    let rest : r.0.kept ≡ kept = same_rest r.0.kept kept part (sym r.2.last ∙ last) in
    subst (λ u. DequeRule parts (set views 0 u)) (r.2.now ∙ ap (λ (k : List Stretch). with_popped v part k) rest) r.1
step_keeps _ _ views _ (a_steal {parts = parts} {port = port} {v = v} part h) d =
    let r = takes v port h.some_weight (part ∷ []) parts views (omega arith) (omega arith) d h.at in
    subst (λ u. DequeRule parts (set views port u)) r.2.now r.1
step_keeps parts _ views _ (a_split port v share at some_share more) d = shares v port share some_share more parts views d at
step_keeps parts _ views _ (a_naming lens least at) d = opens lens least 0 refl parts views d at
step_keeps parts _ views _ (a_join {other = other} {v = v} {w = w} h g) d =
    merges v 0 w (suc other) refl h.some_weight parts views d h.at (not_first other) (beside views other (together v w) w g.at)

pub always : (parts : List Stretch) (views : List Account) → IsReached parts views → DequeRule parts views
always _ _ (the_making lens least) = makes lens least
always _ _ (then_a_step {parts = parts} {parts' = parts'} {views = views} {views' = views'} before step) =
    step_keeps parts parts' views views' step (always parts views before)

pub knows_all : (parts : List Stretch) (views : List Account) (v : Account) → DequeRule parts views → get_elem? views 0 ≡ some v → v.weight ≡ whole_weight
    → KnowsAll parts v
knows_all parts views v d at whole =
    let stolen : stolen_by views ≡ v.stolen = all_stolen parts views d 0 v at whole in
    let kept : kept_by views ≡ v.kept = kept_own views v at in
    let weights : sum_by (λ (u : Account). u.weight) views ≡ v.weight = d.weights ∙ sym whole in
    record {
      held = d.left ∙ ap (λ (n : ℕ). drop n (kept_by views)) stolen ∙ ap (drop v.stolen) kept;
      as_often = λ h.
          let p = all_is_one (λ (u : Account). u.weight) (λ (u : Account). sum_by h u.pushed) views 0 v at (λ j u a no. ap (λ l. sum_by h l) (d.idle j u a no).0) weights in
          let t = all_is_one (λ (u : Account). u.weight) (λ (u : Account). sum_by h u.taken) views 0 v at (λ j u a no. ap (λ l. sum_by h l) (d.idle j u a no).1) weights in
          let o = weighed parts views d.as_often h in
          omega (arith, sum_by-append h v.taken parts);
    }

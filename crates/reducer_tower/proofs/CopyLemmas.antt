-- Groups that are copied one by one are the same groups.
use Rattle.std.proofs.Common.{◌≡◌, ℕ, List, [], ◌∷◌, ◌++◌, Bool, true, false, cond, Some, None, refl, sym, ap, ◌∙◌, subst}
use Rattle.std.specs.Prelude.{is_some}
use Rattle.std.specs.BTreeMap.{is_at}
use Rattle.std.specs.Cmp.Lexicographic.{slice_cmp}
use Rattle.std.specs.List.{AllByRecursion}
use Rattle.std.specs.Map.{keys_of}
use Rattle.std.specs.Ordering.{nat_cmp, is_eq}
use Rattle.std.specs.declared.cmp.Ordering.TheVariants.{Less}
use Rattle.std.specs.Str.{bytes_eq}
use Rattle.std.proofs.lemmas.Cmp.{nat_list_cmp_total}
use Rattle.std.proofs.lemmas.Map.Keys.{sorted_head, sorted_tail}
use Rattle.std.proofs.lemmas.Map.Lookups.{exact_bytes, btree_set_from_contains}
use Rattle.std.proofs.lemmas.Map.Made.{is_some-lookup}
use Rattle.std.proofs.lemmas.Map.Text.{is_eq-slice_cmp}
use Rattle.reducer_laws.specs.Groups.{HoldsAt, KeysRise, state_at}
use Rattle.reducer_laws.proofs.GroupLemmas.{group_none, either, either-None, state_at-append, same_key, key_itself, flipped, found}
use Rattle.reducer_tower.specs.declared.state.TowerState.{TowerState}
use Rattle.reducer_tower.proofs.TowerLemmas.{Held}

-- the copies rise, and have the state of each key that these have
pub record Copied (groups copies : Held) : Type 0 where
  pub rising : KeysRise copies
  pub each : (q : List ℕ) → state_at q copies ≡ state_at q groups

pub copied_none : Copied [] []
copied_none = record { rising = (group_none {S = TowerState} {I = ℕ} (λ a xs. Unit {0})).rising; each = λ q. refl }

pub copied_push : (ys copies after : Held) (key : List ℕ) (a : TowerState) → state_at key ys ≡ None → HoldsAt key a copies after → Copied ys copies → Copied (ys ++ (key, a) ∷ []) after
copied_push ys copies after key a none put h = record {
  rising = put.rising;
  each = λ q. put.each q ∙ at q (bytes_eq key q) refl ∙ sym (state_at-append q ys ((key, a) ∷ []));
}
  where
    at : (q : List ℕ) (same : Bool) → bytes_eq key q ≡ same → cond (bytes_eq key q) (Some a) (state_at q copies) ≡ either (state_at q ys) (cond (bytes_eq q key) (Some a) None)
    at q true e =
        let here : key ≡ q = same_key key q e in
        let nothing : state_at q ys ≡ None = subst (λ z. state_at z ys ≡ None) here none in
        ap (λ t. cond t (Some a) (state_at q copies)) e
        ∙ sym (ap (λ o. either o (cond (bytes_eq q key) (Some a) None)) nothing ∙ ap (λ t. cond t (Some a) None) (flipped key q true e))
    at q false e =
        ap (λ t. cond t (Some a) (state_at q copies)) e
        ∙ h.each q
        ∙ sym (ap (λ t. either (state_at q ys) (cond t (Some a) None)) (flipped key q false e) ∙ either-None (state_at q ys))

-- ---- rising keys with the same states are the same list
absent : (k : List ℕ) (es : Held) → AllByRecursion (λ y. slice_cmp nat_cmp k y ≡ Less) (keys_of es) → state_at k es ≡ None
absent k [] h = refl
absent k (e ∷ es) h = ap (λ b. cond b (Some e.1) (state_at k es)) (sym (is_eq-slice_cmp k e.0) ∙ ap is_eq h.0) ∙ absent k es h.1

-- a key that stands first stands nowhere else
once : (e : List ℕ × TowerState) (es : Held) → KeysRise (e ∷ es) → state_at e.0 es ≡ None
once e es h = absent e.0 es (sorted_head (slice_cmp nat_cmp) e.0 (keys_of es) h)

module _ (e f : List ℕ × TowerState) (es fs : Held) (r : KeysRise (e ∷ es)) (s : KeysRise (f ∷ fs)) (key : e.0 ≡ f.0) (h : (q : List ℕ) → state_at q (e ∷ es) ≡ state_at q (f ∷ fs)) where
  same_state : Some e.1 ≡ Some f.1
  same_state =
      sym (ap (λ b. cond b (Some e.1) (state_at e.0 es)) (key_itself e.0)) ∙ h e.0
      ∙ ap (λ b. cond b (Some f.1) (state_at e.0 fs)) (ap (λ z. bytes_eq e.0 z) (sym key) ∙ key_itself e.0)

  same_below : (q : List ℕ) (b : Bool) → bytes_eq q e.0 ≡ b → state_at q es ≡ state_at q fs
  same_below q true is =
      let here : q ≡ e.0 = same_key q e.0 is in
      let left : state_at q es ≡ None = ap (λ z. state_at z es) here ∙ once e es r in
      let right : state_at q fs ≡ None = ap (λ z. state_at z fs) (here ∙ key) ∙ once f fs s in
      left ∙ sym right
  same_below q false is =
      sym (ap (λ t. cond t (Some e.1) (state_at q es)) is) ∙ h q ∙ ap (λ t. cond t (Some f.1) (state_at q fs)) (ap (λ z. bytes_eq q z) (sym key) ∙ is)

one_state : (a b : TowerState) → Some a ≡ Some b → a ≡ b
one_state a b e = cc

same_list : (es fs : Held) → KeysRise es → KeysRise fs → keys_of es ≡ keys_of fs → ((q : List ℕ) → state_at q es ≡ state_at q fs) → es ≡ fs
same_list [] [] r s k h = refl
same_list [] (f ∷ fs) r s k h = cc
same_list (e ∷ es) [] r s k h = cc
same_list (e ∷ es) (f ∷ fs) r s k h =
    let key : e.0 ≡ f.0 = cc in
    let keys : keys_of es ≡ keys_of fs = cc in
    let state : e.1 ≡ f.1 = one_state e.1 f.1 (same_state e f es fs r s key h) in
    let rest : es ≡ fs =
    same_list es fs (sorted_tail (slice_cmp nat_cmp) e.0 (keys_of es) r) (sorted_tail (slice_cmp nat_cmp) f.0 (keys_of fs) s) keys
    (λ q. same_below e f es fs r s key h q (bytes_eq q e.0) refl) in
    λ i. (key i, state i) ∷ rest i

pub copied_all : (groups copies : Held) → KeysRise groups → Copied groups copies → copies ≡ groups
copied_all groups copies rising h =
    let keys : keys_of copies ≡ keys_of groups =
    btree_set_from_contains nat_list_cmp_total (record { keys = keys_of copies }) (record { keys = keys_of groups }) h.rising rising
    (λ q. sym (is_some-lookup (is_at (slice_cmp nat_cmp q)) copies) ∙ ap is_some (sym (found q copies) ∙ h.each q ∙ found q groups) ∙ is_some-lookup (is_at (slice_cmp nat_cmp q)) groups)
    exact_bytes in
    same_list copies groups h.rising rising keys h.each

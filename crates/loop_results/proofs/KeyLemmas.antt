-- The keys of inputs rise, and are those under which there are inputs.
use Rattle.std.proofs.Common.{◌≡◌, ◌≢◌, ℕ, List, [], ◌∷◌, map, Bool, true, false, cond, refl, ap, sym, ◌∙◌, subst, Contains, true≢false}
use Rattle.std.specs.Prelude.{filter, ◌||◌, ◌↔◌}
use Rattle.std.specs.declared.cmp.Ordering.{Ordering}
use Rattle.std.specs.declared.cmp.Ordering.TheVariants.{Less, Equal, Greater}
use Rattle.std.specs.Ordering.{nat_cmp, ordering_reverse, match_ordering, eq_by_cmp}
use Rattle.std.specs.Cmp.{Equal-is}
use Rattle.std.specs.Cmp.Lexicographic.{slice_cmp}
use Rattle.std.specs.Str.{bytes_eq}
use Rattle.std.specs.List.{list_any, AllByRecursion}
use Rattle.std.specs.List.Sorted.{IsStrictlySortedBy}
use Rattle.std.specs.BTreeMap.{is_at}
use Rattle.std.proofs.lemmas.Cmp.{nat_list_cmp_total, eq_by_cmp_equiv}
use Rattle.std.proofs.lemmas.Map.Lookups.{exact_bytes}
use Rattle.std.proofs.lemmas.Map.Text.{is_eq-slice_cmp}
use Rattle.std.proofs.lemmas.Map.Views.{Contains-from_any, list_any-from_Contains}
use Rattle.loop_results.specs.Groups.{Rise, with_key, keys_in, inputs_under}

abbrev pub by_bytes : List ℕ → List ℕ → Ordering
by_bytes = slice_cmp nat_cmp

abbrev Above : List ℕ → List (List ℕ) → Type 0
Above k ks = AllByRecursion (λ j. by_bytes k j ≡ Less) ks

abbrev pub has : List ℕ → List (List ℕ) → Bool
has q ks = list_any (is_at (by_bytes q)) ks

-- ---- one more key among rising keys
above_all : (k j : List ℕ) (ks : List (List ℕ)) → by_bytes k j ≡ Less → Above j ks → Above k ks
above_all k j [] e h = tt
above_all k j (x ∷ ks) e h = (nat_list_cmp_total.trans k j x e h.0, above_all k j ks e h.1)

among_above : (x : List ℕ) (o : Ordering) (k j : List ℕ) (ks more : List (List ℕ)) → by_bytes x k ≡ Less → Above x (j ∷ ks) → Above x more → Above x (match_ordering o (k ∷ j ∷ ks) (j ∷ ks) (j ∷ more))
among_above x Less k j ks more e h m = (e, h)
among_above x Equal k j ks more e h m = h
among_above x Greater k j ks more e h m = (h.0, m)

with_key_above : (x k : List ℕ) (ks : List (List ℕ)) → by_bytes x k ≡ Less → Above x ks → Above x (with_key k ks)
with_key_above x k [] e h = (e, tt)
with_key_above x k (j ∷ ks) e h = among_above x (by_bytes k j) k j ks (with_key k ks) e h (with_key_above x k ks e h.1)

among_rise : (o : Ordering) (k j : List ℕ) (ks more : List (List ℕ)) → by_bytes k j ≡ o → Rise (j ∷ ks) → Rise more → (by_bytes j k ≡ Less → Above j more) → Rise (match_ordering o (k ∷ j ∷ ks) (j ∷ ks) (j ∷ more))
unfolding IsStrictlySortedBy
among_rise Less k j ks more e h m above = ((e, above_all k j ks e h.0), h)
among_rise Equal k j ks more e h m above = h
among_rise Greater k j ks more e h m above = (above (nat_list_cmp_total.antisymm j k ∙ ap ordering_reverse e), m)

with_key_rise : (k : List ℕ) (ks : List (List ℕ)) → Rise ks → Rise (with_key k ks)
unfolding IsStrictlySortedBy
with_key_rise k [] h = (tt, tt)
with_key_rise k (j ∷ ks) h =
    among_rise (by_bytes k j) k j ks (with_key k ks) refl h (with_key_rise k ks h.1) (λ e. with_key_above j k ks e h.0)

no_rise : Rise []
unfolding IsStrictlySortedBy
no_rise = tt

same_either : (b c : Bool) → (b || c) ≡ (b || (b || c))
same_either true c = refl
same_either false c = refl

turned : (a b c : Bool) → (b || (a || c)) ≡ (a || (b || c))
turned true true c = refl
turned true false c = refl
turned false b c = refl

among_has : (q : List ℕ) (o : Ordering) (k j : List ℕ) (ks more : List (List ℕ)) → by_bytes k j ≡ o → has q more ≡ (is_at (by_bytes q) k || has q ks) → has q (match_ordering o (k ∷ j ∷ ks) (j ∷ ks) (j ∷ more)) ≡ (is_at (by_bytes q) k || has q (j ∷ ks))
among_has q Less k j ks more e h = refl
among_has q Equal k j ks more e h =
    subst (λ z. has q (j ∷ ks) ≡ (is_at (by_bytes q) z || has q (j ∷ ks))) (sym (exact_bytes k j e)) (same_either (is_at (by_bytes q) j) (has q ks))
among_has q Greater k j ks more e h = ap (λ b. is_at (by_bytes q) j || b) h ∙ turned (is_at (by_bytes q) k) (is_at (by_bytes q) j) (has q ks)

with_key_has : (q k : List ℕ) (ks : List (List ℕ)) → has q (with_key k ks) ≡ (is_at (by_bytes q) k || has q ks)
with_key_has q k [] = refl
with_key_has q k (j ∷ ks) = among_has q (by_bytes k j) k j ks (with_key k ks) refl (with_key_has q k ks)

-- keys that compare as equal are the same
exact : (x y : List ℕ) → eq_by_cmp by_bytes x y ≡ true → x ≡ y
exact x y e = exact_bytes x y ((Equal-is (by_bytes x y)).0 e)

-- ---- which keys occur
module _ {I : Type 0} where
  abbrev pub is_some_list : List I → Bool
  is_some_list [] = false
  is_some_list (x ∷ xs) = true

  one_more : (b : Bool) (x : List ℕ × I) (xs : List (List ℕ × I)) → is_some_list (map (λ i. i.1) (cond b (x ∷ xs) xs)) ≡ (b || is_some_list (map (λ i. i.1) xs))
  one_more true x xs = refl
  one_more false x xs = refl

  pub keys_in_rise : (inputs : List (List ℕ × I)) → Rise (keys_in inputs)
  keys_in_rise [] = no_rise
  keys_in_rise (i ∷ is) = with_key_rise i.0 (keys_in is) (keys_in_rise is)

  pub keys_in_has : (q : List ℕ) (inputs : List (List ℕ × I)) → has q (keys_in inputs) ≡ is_some_list (inputs_under q inputs)
  keys_in_has q [] = refl
  keys_in_has q (i ∷ is) =
      with_key_has q i.0 (keys_in is)
      ∙ (λ t. is_eq-slice_cmp q i.0 t || keys_in_has q is t)
      ∙ sym (one_more (bytes_eq q i.0) i (filter (λ j. bytes_eq q j.0) is))

  pub some_there : (xs : List I) → xs ≢ [] → is_some_list xs ≡ true
  some_there [] ne = absurd (ne refl)
  some_there (x ∷ xs) ne = refl

  -- a key is there exactly where it has inputs
  occurs : (xs : List I) → is_some_list xs ≡ true → xs ≢ []
  occurs xs h = λ e. true≢false (sym h ∙ ap is_some_list e)

  pub keys_occur : (inputs : List (List ℕ × I)) (k : List ℕ) → Contains (keys_in inputs) k ↔ (inputs_under k inputs ≢ [])
  keys_occur inputs k = (
    λ here. occurs (inputs_under k inputs) (sym (keys_in_has k inputs) ∙ list_any-from_Contains (eq_by_cmp_equiv nat_list_cmp_total) k (keys_in inputs) here),
    λ some. Contains-from_any exact k (keys_in inputs) (keys_in_has k inputs ∙ some_there (inputs_under k inputs) some),
  )

-- The keys of states by their keys are those of the inputs that they stand for.
use Rattle.std.proofs.Common.{◌≡◌, ℕ, List, [], ◌∷◌, Bool, true, false, cond, Option, Some, None, refl, ap, sym, ◌∙◌, subst}
use Rattle.std.specs.Prelude.{◌||◌, is_some, slice_index_or}
use Rattle.std.specs.List.{All}
use Rattle.std.specs.BTreeMap.{is_at}
use Rattle.std.specs.Map.{lookup, keys_of}
use Rattle.std.proofs.lemmas.Cmp.{nat_list_cmp_total, eq_by_cmp_equiv}
use Rattle.std.proofs.lemmas.Map.Lookups.{exact_bytes, btree_set_from_contains}
use Rattle.std.proofs.lemmas.Map.Entries.{lookup_from_place}
use Rattle.std.proofs.lemmas.Map.Keys.{IsDistinct-from_sorted}
use Rattle.std.proofs.lemmas.Option.{slice_get-get_or}
use Rattle.loop_results.specs.Groups.{keys_in, inputs_under}
use Rattle.loop_results.proofs.KeyLemmas.{by_bytes, has, is_some_list, some_there, keys_in_rise, keys_in_has}
use Rattle.reducer_laws.specs.Groups.{state_at, StandsWhere, GroupsStand}
use Rattle.reducer_laws.proofs.GroupLemmas.{found}

one_found : {S : Type 0} (b : Bool) (s : S) (o : Option S) → is_some (cond b (Some s) o) ≡ (b || is_some o)
one_found true s o = refl
one_found false s o = refl

found_has : {S : Type 0} (q : List ℕ) (groups : List (List ℕ × S)) → is_some (lookup (is_at (by_bytes q)) groups) ≡ has q (keys_of groups)
found_has q [] = refl
found_has q (e ∷ es) = one_found (is_at (by_bytes q) e.0) e.1 (lookup (is_at (by_bytes q)) es) ∙ ap (λ b. is_at (by_bytes q) e.0 || b) (found_has q es)

module _ {S I : Type 0} (stands : S → List I → Type 0) where
  stands_has : (o : Option S) (xs : List I) → StandsWhere stands o xs → is_some o ≡ is_some_list xs
  stands_has None xs h = ap is_some_list (sym h)
  stands_has (Some s) xs h = sym (some_there xs h.0)

  -- the keys are those that occur
  pub same_keys : (groups : List (List ℕ × S)) (inputs : List (List ℕ × I)) → GroupsStand stands groups inputs → keys_of groups ≡ keys_in inputs
  same_keys groups inputs h =
      btree_set_from_contains nat_list_cmp_total (record { keys = keys_of groups }) (record { keys = keys_in inputs }) h.rising (keys_in_rise inputs)
      (λ q. sym (found_has q groups) ∙ ap is_some (sym (found q groups)) ∙ stands_has (state_at q groups) (inputs_under q inputs) (h.each q) ∙ sym (keys_in_has q inputs))
      exact_bytes

  -- and each state stands for the inputs of its key
  pub each_stands : (groups : List (List ℕ × S)) (inputs : List (List ℕ × I)) → GroupsStand stands groups inputs → All (λ group. stands group.1 (inputs_under group.0 inputs)) groups
  each_stands groups inputs h = λ k d lt.
      let group = slice_index_or groups k d in
      let here = lookup_from_place (eq_by_cmp_equiv nat_list_cmp_total) groups k group.0 group.1 (IsDistinct-from_sorted by_bytes (keys_of groups) h.rising) (slice_get-get_or groups k d lt) in
      (subst (λ o. StandsWhere stands o (inputs_under group.0 inputs)) (found group.0 groups ∙ here) (h.each group.0)).1

-- A tree by text, read as a finite map by bytes.
use Rattle.std.proofs.Common.{◌≡◌, ℕ, List, [], ◌∷◌, cond, Some, refl, ap, sym, ◌∙◌}
use Rattle.std.specs.Prelude.{String, string_bytes}
use Rattle.std.proofs.lemmas.Cmp.{nat_list_cmp_total, eq_by_cmp_equiv}
use Rattle.std.proofs.lemmas.Map.Text.{btree_map_updates_text, is_eq-slice_cmp}
use Rattle.std.specs.Ordering.{nat_cmp, eq_by_cmp, is_eq}
use Rattle.std.specs.Cmp.Lexicographic.{slice_cmp}
use Rattle.std.specs.String.{string_cmp}
use Rattle.std.specs.BTreeMap.{BTreeMap, get_by_text, Updates}
use Rattle.std.specs.FinMap.{FinMap, get, insert, find, from_entries, get-from_entries, get-insert, same_map, slice_cmp-IsAntisymmetric, nat_cmp-IsAntisymmetric}
use Rattle.std.specs.Map.{lookup}
use Rattle.edge_io.specs.Keyed.{by_bytes}

abbrev Texts : Type 0 → Type 0
Texts X = FinMap (slice_cmp nat_cmp) X

module _ {A X : Type 0} where
  found_in : (q : List ℕ) (es : List (String A × X)) → lookup (λ k. is_eq (slice_cmp nat_cmp q (string_bytes k))) es ≡ find (slice_cmp nat_cmp) q (by_bytes es)
  found_in q [] = refl
  found_in q (e ∷ es) = ap (cond (is_eq (slice_cmp nat_cmp q (string_bytes e.0))) (Some e.1)) (found_in q es)

  pub found : (q : List ℕ) (t : BTreeMap (String A) X) → get_by_text t q ≡ find (slice_cmp nat_cmp) q (by_bytes t.entries)
  found q t = found_in q t.entries

  abbrev pub texts : BTreeMap (String A) X → Texts X
  texts t = from_entries (by_bytes t.entries)

  pub get-texts : (q : List ℕ) (t : BTreeMap (String A) X) → get (texts t) q ≡ get_by_text t q
  get-texts q t = get-from_entries nat_list_cmp_total (by_bytes t.entries) q ∙ sym (found q t)

  pub insert-texts : (k : String A) (v : X) (old new : BTreeMap (String A) X) → Updates string_cmp old new k (Some v) → texts new ≡ insert (texts old) (string_bytes k) v
  insert-texts k v old new u =
      same_map nat_list_cmp_total (slice_cmp-IsAntisymmetric nat_cmp-IsAntisymmetric) _ _ (λ q.
      get-texts q new
      ∙ btree_map_updates_text (string_bytes k) old new (Some v) u q
      ∙ ap (λ b. cond b (Some v) (get_by_text old q)) (sym (is_eq-slice_cmp (string_bytes k) q) ∙ (eq_by_cmp_equiv nat_list_cmp_total).symm (string_bytes k) q)
      ∙ ap (cond (eq_by_cmp (slice_cmp nat_cmp) q (string_bytes k)) (Some v)) (sym (get-texts q old))
      ∙ sym (get-insert nat_list_cmp_total (texts old) (string_bytes k) v q))

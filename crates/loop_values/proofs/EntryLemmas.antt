-- A list of entries with one entry set, as a finite map.
use Rattle.std.proofs.Common.{◌≡◌, ◌≢◌, ℕ, zero, suc, ◌+◌, ◌<◌, List, [], ◌∷◌, ◌++◌, length, take, drop, get_or, Bool, true, false, cond, Option, Some, None, refl, ap, sym, ◌∙◌, subst, append_assoc, rules, arith}
use Rattle.std.specs.Prelude.{slice_set, if◌then◌else◌}
use Rattle.std.proofs.lemmas.Cmp.{nat_list_cmp_total}
use Rattle.std.proofs.lemmas.List.{drop_more, take_more}
use Rattle.std.proofs.lemmas.Map.Text.{is_eq-slice_cmp}
use Rattle.std.proofs.lemmas.Slice.Eq.{bytes_eq-Decides}
use Rattle.std.specs.Ordering.{nat_cmp, eq_by_cmp}
use Rattle.std.specs.Cmp.Lexicographic.{slice_cmp}
use Rattle.std.specs.Str.{bytes_eq}
use Rattle.std.specs.FinMap.{FinMap, get, insert, find, from_entries, get-from_entries, get-insert, same_map, slice_cmp-IsAntisymmetric, nat_cmp-IsAntisymmetric}
use Rattle.loop_values.specs.Entries.{with_entry}

-- at a place whose key is k the entry's value is set
pub with_entry-here : {X : Type 0} (es : List (List ℕ × X)) (i : ℕ) (k : List ℕ) (v : X) (d d' : List ℕ × X) → i < length es → bytes_eq k (get_or es i d).0 ≡ true → take i es ++ with_entry (drop i es) k v ≡ slice_set es i ((get_or es i d').0, v)
with_entry-here [] i k v d d' lt e = absurd (omega arith)
with_entry-here (x ∷ es) zero k v d d' lt e = ap (λ b. if b then (x.0, v) ∷ es else x ∷ with_entry es k v) e
with_entry-here (x ∷ es) (suc i) k v d d' lt e = ap (λ l. x ∷ l) (with_entry-here es i k v d d' (omega arith) e)

-- at a place whose key isn't k the entry stays
pub with_entry-past : {X : Type 0} (es : List (List ℕ × X)) (i : ℕ) (k : List ℕ) (v : X) (d : List ℕ × X) → i < length es → bytes_eq k (get_or es i d).0 ≡ false → take (i + 1) es ++ with_entry (drop (i + 1) es) k v ≡ take i es ++ with_entry (drop i es) k v
with_entry-past es i k v d lt e =
    ap (λ l. l ++ with_entry (drop (i + 1) es) k v) (take_more es i d lt)
    ∙ append_assoc (take i es) (get_or es i d ∷ []) (with_entry (drop (i + 1) es) k v)
    ∙ ap (λ l. take i es ++ l) (sym (ap (λ l. with_entry l k v) (drop_more es i d lt) ∙ ap (λ b. if b then ((get_or es i d).0, v) ∷ drop (i + 1) es else get_or es i d ∷ with_entry (drop (i + 1) es) k v) e))

pub at_text : (q k : List ℕ) → eq_by_cmp (slice_cmp nat_cmp) q k ≡ bytes_eq q k
at_text q k = is_eq-slice_cmp q k

pub same_text : (q k : List ℕ) → bytes_eq q k ≡ true → q ≡ k
same_text q k e = search (rules, bytes_eq-Decides q k)

pub same_self : (q : List ℕ) → bytes_eq q q ≡ true
same_self q = search (rules, bytes_eq-Decides q q)

module _ {X : Type 0} where
  twice : (b : Bool) (x y z : Option X) → cond b x z ≡ cond b x (cond b y z)
  twice true x y z = refl
  twice false x y z = refl

  apart : (b c : Bool) (x y z : Option X) → (b ≡ true → c ≡ true → ⊥) → cond b y (cond c x z) ≡ cond c x (cond b y z)
  apart true true x y z ne = absurd (ne refl refl)
  apart true false x y z ne = refl
  apart false c x y z ne = refl

  one_more : (q k : List ℕ) (v : X) (e : List ℕ × X) (es : List (List ℕ × X)) → find (slice_cmp nat_cmp) q (with_entry es k v) ≡ cond (eq_by_cmp (slice_cmp nat_cmp) q k) (Some v) (find (slice_cmp nat_cmp) q es) → (b : Bool) → bytes_eq k e.0 ≡ b → find (slice_cmp nat_cmp) q (if b then (e.0, v) ∷ es else e ∷ with_entry es k v) ≡ cond (eq_by_cmp (slice_cmp nat_cmp) q k) (Some v) (cond (eq_by_cmp (slice_cmp nat_cmp) q e.0) (Some e.1) (find (slice_cmp nat_cmp) q es))
  one_more q k v e es ih true h = subst (λ t. cond (eq_by_cmp (slice_cmp nat_cmp) q e.0) (Some v) (find (slice_cmp nat_cmp) q es) ≡ cond (eq_by_cmp (slice_cmp nat_cmp) q t) (Some v) (cond (eq_by_cmp (slice_cmp nat_cmp) q e.0) (Some e.1) (find (slice_cmp nat_cmp) q es))) (sym (same_text k e.0 h)) (twice (eq_by_cmp (slice_cmp nat_cmp) q e.0) (Some v) (Some e.1) _)
  one_more q k v e es ih false h =
      ap (cond (eq_by_cmp (slice_cmp nat_cmp) q e.0) (Some e.1)) ih
      ∙ apart (eq_by_cmp (slice_cmp nat_cmp) q e.0) (eq_by_cmp (slice_cmp nat_cmp) q k) (Some v) (Some e.1) _ (λ x y.
      let a = same_text q e.0 (sym (at_text q e.0) ∙ x) in
      let b = same_text q k (sym (at_text q k) ∙ y) in
      let t : bytes_eq k e.0 ≡ true = subst (λ z. bytes_eq z e.0 ≡ true) b (subst (λ z. bytes_eq q z ≡ true) a (same_self q)) in
      cc)

  find-with_entry : (q k : List ℕ) (v : X) (es : List (List ℕ × X)) → find (slice_cmp nat_cmp) q (with_entry es k v) ≡ cond (eq_by_cmp (slice_cmp nat_cmp) q k) (Some v) (find (slice_cmp nat_cmp) q es)
  find-with_entry q k v [] = refl
  find-with_entry q k v (e ∷ es) = one_more q k v e es (find-with_entry q k v es) (bytes_eq k e.0) refl

  pub from_entries-with_entry : (es : List (List ℕ × X)) (k : List ℕ) (v : X) → from_entries {R = slice_cmp nat_cmp} (with_entry es k v) ≡ insert (from_entries es) k v
  from_entries-with_entry es k v =
      same_map nat_list_cmp_total (slice_cmp-IsAntisymmetric nat_cmp-IsAntisymmetric) _ _ (λ q.
      get-from_entries nat_list_cmp_total (with_entry es k v) q
      ∙ find-with_entry q k v es
      ∙ ap (cond (eq_by_cmp (slice_cmp nat_cmp) q k) (Some v)) (sym (get-from_entries nat_list_cmp_total es q))
      ∙ sym (get-insert nat_list_cmp_total (from_entries es) k v q))

-- a look-up that starts at a place goes by the test at the entry there
pub find-at : {X : Type 0} (q : List ℕ) (es : List (List ℕ × X)) (i : ℕ) (x : List ℕ × X) (b : Bool) → i < length es → x ≡ get_or es i x → bytes_eq q x.0 ≡ b → find (slice_cmp nat_cmp) q (drop i es) ≡ cond b (Some x.1) (find (slice_cmp nat_cmp) q (drop (i + 1) es))
find-at q es i x b lt is e =
    ap (find (slice_cmp nat_cmp) q) (drop_more es i x lt)
    ∙ ap (λ z. find (slice_cmp nat_cmp) q (z ∷ drop (i + 1) es)) (sym is)
    ∙ ap (λ t. cond t (Some x.1) (find (slice_cmp nat_cmp) q (drop (i + 1) es))) (at_text q x.0 ∙ e)

-- a look-up in a map that is seen of a list of entries
pub get-view : {X : Type 0} (q : List ℕ) (es fs : List (List ℕ × X)) (m : FinMap (slice_cmp nat_cmp) X) (r : Option X) → r ≡ find (slice_cmp nat_cmp) q fs → fs ≡ es → from_entries es ≡ m → r ≡ get m q
get-view q es fs m r given same view =
    given ∙ ap (find (slice_cmp nat_cmp) q) same ∙ sym (get-from_entries nat_list_cmp_total es q) ∙ ap (λ n. get n q) view

-- a name that such a map knows is found in the list
pub known-view : {X : Type 0} (q : List ℕ) (es : List (List ℕ × X)) (m : FinMap (slice_cmp nat_cmp) X) → from_entries es ≡ m → get m q ≢ None → find (slice_cmp nat_cmp) q es ≢ None
known-view q es m view known none =
    known (sym (ap (λ n. get n q) view) ∙ get-from_entries nat_list_cmp_total es q ∙ none)

-- Trees by number, read as a finite set and as a finite map.
use Rattle.std.proofs.Common.{◌≡◌, ℕ, Bool, true, false, cond, List, [], ◌∷◌, Some, refl, ap, sym, ◌∙◌}
use Rattle.std.specs.Prelude.{◌||◌}
use Rattle.std.specs.Ordering.{nat_cmp, eq_by_cmp, is_eq}
use Rattle.std.specs.Map.{lookup}
use Rattle.std.specs.Cmp.{nat_cmp_total, eq_by_cmp_equiv}
use Rattle.std.specs.BTreeMap as tree
use Rattle.std.specs.BTreeMap.{BTreeMap}
use Rattle.std.specs.BTreeSet as tree_set
use Rattle.std.specs.BTreeSet.{BTreeSet}
use Rattle.std.specs.FinSet as set
use Rattle.std.specs.FinMap as map

pub contains-keys : (t : BTreeSet ℕ) (q : ℕ) → set.contains (set.from_list {R = nat_cmp} t.keys) q ≡ tree_set.contains nat_cmp t q
contains-keys t q = set.contains-from_list nat_cmp_total t.keys q

cond-or : (a b : Bool) → cond a true b ≡ (a || b)
cond-or true b = refl
cond-or false b = refl

-- the same key, seen from either side
flipped : (k q : ℕ) → eq_by_cmp nat_cmp k q ≡ eq_by_cmp nat_cmp q k
flipped k q = (eq_by_cmp_equiv nat_cmp_total).symm k q

pub insert-keys : (k : ℕ) (old new : BTreeSet ℕ) → tree_set.Updates nat_cmp old new k true →
    set.from_list {R = nat_cmp} new.keys ≡ set.insert (set.from_list old.keys) k
insert-keys k old new u =
    set.same_set nat_cmp_total set.nat_cmp-IsAntisymmetric _ _ (λ q.
    contains-keys new q
    ∙ u.0 q
    ∙ ap (λ b. cond b true (tree_set.contains nat_cmp old q)) (flipped k q)
    ∙ cond-or (eq_by_cmp nat_cmp q k) (tree_set.contains nat_cmp old q)
    ∙ ap (λ b. eq_by_cmp nat_cmp q k || b) (sym (contains-keys old q))
    ∙ sym (set.contains-insert nat_cmp_total (set.from_list old.keys) k q))

found_in : (q : ℕ) (es : List (ℕ × ℕ)) → lookup (λ k. is_eq (nat_cmp q k)) es ≡ map.find nat_cmp q es
found_in q [] = refl
found_in q (e ∷ es) = ap (cond (is_eq (nat_cmp q e.0)) (Some e.1)) (found_in q es)

pub get-entries : (t : BTreeMap ℕ ℕ) (q : ℕ) → map.get (map.from_entries {R = nat_cmp} t.entries) q ≡ tree.get nat_cmp t q
get-entries t q = map.get-from_entries nat_cmp_total t.entries q ∙ sym (found_in q t.entries)

pub insert-entries : (k v : ℕ) (old new : BTreeMap ℕ ℕ) → tree.Updates nat_cmp old new k (Some v) →
    map.from_entries {R = nat_cmp} new.entries ≡ map.insert (map.from_entries old.entries) k v
insert-entries k v old new u =
    map.same_map nat_cmp_total map.nat_cmp-IsAntisymmetric _ _ (λ q.
    get-entries new q
    ∙ u.0 q
    ∙ ap (λ b. cond b (Some v) (tree.get nat_cmp old q)) (flipped k q)
    ∙ ap (cond (eq_by_cmp nat_cmp q k) (Some v)) (sym (get-entries old q))
    ∙ sym (map.get-insert nat_cmp_total (map.from_entries old.entries) k v q))

-- Two kinds that the test finds the same are equal.
use Rattle.std.proofs.Common.{◌≡◌, Bool, true, false, List, [], ◌∷◌, map, refl, ap, sym, ◌∙◌, subst, rules}
use Rattle.std.specs.Prelude.{◌&&◌}
use Rattle.loop_data.specs.declared.value.ValueKind.{ValueKind, out-ValueKind, roll-ValueKind, ind-ValueKind, fold-roll-ValueKind, map-ValueKind, the_lemmas}
use Rattle.loop_data.specs.declared.value.ValueKind.TheOpen.{ValueKind-F, ValueKind-F as k}
use Rattle.loop_values.specs.Kinds.{same_kind, same_all, same_at, same_step}

abbrev IsToldApart : ValueKind → Type 0
IsToldApart a = (b : ValueKind) → same_kind a b ≡ true → a ≡ b

abbrev Told : Type 0
Told = (a : ValueKind) × IsToldApart a

abbrev bare : Told → ValueKind
bare t = t.0

and-both : (a b : Bool) → (a && b) ≡ true → (a ≡ true) × (b ≡ true)
and-both true true e = (refl, refl)
and-both true false e = absurd (cc)
and-both false b e = absurd (cc)

all_told : (ts : List Told) (ks : List ValueKind) → same_all (map same_kind (map bare ts)) ks ≡ true → map bare ts ≡ ks
all_told [] [] e = refl
all_told [] (k ∷ ks) e = absurd (cc)
all_told (t ∷ ts) [] e = absurd (cc)
all_told (t ∷ ts) (k ∷ ks) e =
    let h = and-both (same_kind t.0 k) _ e in
    let first = t.1 k h.0 in
    let rest = all_told ts ks h.1 in
    cc

layer_told : (y : ValueKind-F Told) (z : ValueKind-F ValueKind) → same_at (map-ValueKind ValueKind (ValueKind → Bool) same_kind (map-ValueKind Told ValueKind bare y)) z ≡ true → map-ValueKind Told ValueKind bare y ≡ z
layer_told k.Int k.Int e = refl
layer_told k.Bool k.Bool e = refl
layer_told k.Text k.Text e = refl
layer_told (k.Tuple ts) (k.Tuple ks) e = ap (λ l. k.Tuple l) (all_told ts ks e)
layer_told (k.Maybe t) (k.Maybe x) e = ap (λ v. k.Maybe v) (t.1 x e)
layer_told _ _ e = absurd (cc)

rolled : (b : ValueKind) → roll-ValueKind (out-ValueKind b) ≡ b
rolled b = search (rules, the_lemmas)

pub same_kind-sound : (a b : ValueKind) → same_kind a b ≡ true → a ≡ b
same_kind-sound = ind-ValueKind IsToldApart (λ x y is b e.
    let f = ap (λ m. m b) (fold-roll-ValueKind (ValueKind → Bool) same_step x) in
    let g : same_at (map-ValueKind ValueKind (ValueKind → Bool) same_kind x) (out-ValueKind b) ≡ true = sym f ∙ e in
    let h = subst (λ z. same_at (map-ValueKind ValueKind (ValueKind → Bool) same_kind z) (out-ValueKind b) ≡ true) (sym is) g in
    ap roll-ValueKind (sym is ∙ layer_told y (out-ValueKind b) h) ∙ rolled b)

-- ---- a kind is the same as itself

abbrev IsOwn : ValueKind → Type 0
IsOwn a = same_kind a a ≡ true

abbrev Own : Type 0
Own = (a : ValueKind) × IsOwn a

abbrev plain : Own → ValueKind
plain t = t.0

both-hold : (a b : Bool) → a ≡ true → b ≡ true → (a && b) ≡ true
both-hold true b e h = h
both-hold false b e h = e

all_own : (ts : List Own) → same_all (map same_kind (map plain ts)) (map plain ts) ≡ true
all_own [] = refl
all_own (t ∷ ts) = both-hold _ _ t.1 (all_own ts)

layer_own : (y : ValueKind-F Own) → same_at (map-ValueKind ValueKind (ValueKind → Bool) same_kind (map-ValueKind Own ValueKind plain y)) (map-ValueKind Own ValueKind plain y) ≡ true
layer_own k.Int = refl
layer_own k.Bool = refl
layer_own k.Text = refl
layer_own (k.Tuple ts) = all_own ts
layer_own (k.Maybe t) = t.1

opened : (x : ValueKind-F ValueKind) → out-ValueKind (roll-ValueKind x) ≡ x
opened x = search (rules, the_lemmas)

pub same_kind-own : (a : ValueKind) → same_kind a a ≡ true
same_kind-own = ind-ValueKind IsOwn (λ x y is.
    ap (λ m. m (roll-ValueKind x)) (fold-roll-ValueKind (ValueKind → Bool) same_step x)
    ∙ ap (same_at (map-ValueKind ValueKind (ValueKind → Bool) same_kind x)) (opened x)
    ∙ subst (λ z. same_at (map-ValueKind ValueKind (ValueKind → Bool) same_kind z) z ≡ true) is (layer_own y))

pub same_kind-along : (a b : ValueKind) → a ≡ b → same_kind a b ≡ true
same_kind-along a b e = subst (λ z. same_kind a z ≡ true) e (same_kind-own a)

-- Two kinds of tower that the test finds the same are equal, and a kind of tower is the same as itself.
use Rattle.std.proofs.Common.{◌≡◌, Bool, true, false, refl, ap, sym, ◌∙◌, subst, rules}
use Rattle.std.specs.Prelude.{◌&&◌}
use Rattle.loop_data.specs.declared.tower.Kind.{Kind, out-Kind, roll-Kind, ind-Kind, fold-roll-Kind, map-Kind, the_lemmas}
use Rattle.loop_data.specs.declared.tower.Kind.TheOpen.{Kind-F, Kind-F as k}
use Rattle.tower_inputs.specs.Towers.{same_tower, same_at, same_step}

abbrev IsToldApart : Kind → Type 0
IsToldApart a = (b : Kind) → same_tower a b ≡ true → a ≡ b

abbrev Told : Type 0
Told = (a : Kind) × IsToldApart a

abbrev bare : Told → Kind
bare t = t.0

and-both : (a b : Bool) → (a && b) ≡ true → (a ≡ true) × (b ≡ true)
and-both true true e = (refl, refl)
and-both true false e = absurd (cc)
and-both false b e = absurd (cc)

both_told : (s t : Told) (a b : Kind) → (same_tower s.0 a && same_tower t.0 b) ≡ true → ◌≡◌ {A = Kind-F Kind} (k.Both s.0 t.0) (k.Both a b)
both_told s t a b e =
    let p = and-both (same_tower s.0 a) (same_tower t.0 b) e in
    let l = s.1 a p.0 in
    let r = t.1 b p.1 in
    cc

layer_told : (y : Kind-F Told) (z : Kind-F Kind) → same_at (map-Kind Kind (Kind → Bool) same_tower (map-Kind Told Kind bare y)) z ≡ true → map-Kind Told Kind bare y ≡ z
layer_told k.Sum k.Sum e = refl
layer_told k.Prod k.Prod e = refl
layer_told k.Count k.Count e = refl
layer_told k.Least k.Least e = refl
layer_told k.Greatest k.Greatest e = refl
layer_told k.LeastAt k.LeastAt e = refl
layer_told k.GreatestAt k.GreatestAt e = refl
layer_told k.First k.First e = refl
layer_told k.Last k.Last e = refl
layer_told k.Any k.Any e = refl
layer_told k.All k.All e = refl
layer_told k.Listed k.Listed e = refl
layer_told (k.Grouped t) (k.Grouped x) e = ap (λ v. k.Grouped v) (t.1 x e)
layer_told (k.Both s t) (k.Both a b) e = both_told s t a b e
layer_told _ _ e = absurd (cc)

pub rolled : (b : Kind) → roll-Kind (out-Kind b) ≡ b
rolled b = search (rules, the_lemmas)

pub same_tower-sound : (a b : Kind) → same_tower a b ≡ true → a ≡ b
same_tower-sound = ind-Kind IsToldApart (λ x y is b e.
    let f = ap (λ m. m b) (fold-roll-Kind (Kind → Bool) same_step x) in
    let g : same_at (map-Kind Kind (Kind → Bool) same_tower x) (out-Kind b) ≡ true = sym f ∙ e in
    let h = subst (λ z. same_at (map-Kind Kind (Kind → Bool) same_tower z) (out-Kind b) ≡ true) (sym is) g in
    ap roll-Kind (sym is ∙ layer_told y (out-Kind b) h) ∙ rolled b)

-- ---- a kind of tower is the same as itself

abbrev IsOwn : Kind → Type 0
IsOwn a = same_tower a a ≡ true

abbrev Own : Type 0
Own = (a : Kind) × IsOwn a

abbrev plain : Own → Kind
plain t = t.0

both-hold : (a b : Bool) → a ≡ true → b ≡ true → (a && b) ≡ true
both-hold true b e h = h
both-hold false b e h = e

layer_own : (y : Kind-F Own) → same_at (map-Kind Kind (Kind → Bool) same_tower (map-Kind Own Kind plain y)) (map-Kind Own Kind plain y) ≡ true
layer_own (k.Grouped t) = t.1
layer_own (k.Both s t) = both-hold (same_tower s.0 s.0) (same_tower t.0 t.0) s.1 t.1
layer_own _ = refl

opened : (x : Kind-F Kind) → out-Kind (roll-Kind x) ≡ x
opened x = search (rules, the_lemmas)

same_tower-own : (a : Kind) → same_tower a a ≡ true
same_tower-own = ind-Kind IsOwn (λ x y is.
    ap (λ m. m (roll-Kind x)) (fold-roll-Kind (Kind → Bool) same_step x)
    ∙ ap (same_at (map-Kind Kind (Kind → Bool) same_tower x)) (opened x)
    ∙ subst (λ z. same_at (map-Kind Kind (Kind → Bool) same_tower z) z ≡ true) is (layer_own y))

pub same_tower-along : (a b : Kind) → a ≡ b → same_tower a b ≡ true
same_tower-along a b e = subst (λ z. same_tower a z ≡ true) e (same_tower-own a)

-- A tower whose expressions have such kinds as it takes has an input that fits it.
use Rattle.std.proofs.Common.{◌≡◌, ℕ, Bool, true, false, not, List, [], ◌∷◌, ◌++◌, map, Option, Some, None, Ok, Err, inl, inr, refl, ap, sym, ◌∙◌, subst, rules}
use Rattle.std.specs.Prelude.{◌&&◌, ◌||◌, ◌⊎◌, if◌then◌else◌, ℤ, Result}
use Rattle.std.specs.List.{list_all}
use Rattle.loop_data.specs.declared.value.Value.{Value, out-Value, the_lemmas as value_lemmas}
use Rattle.loop_data.specs.declared.value.Value.TheVariants.{Int, Bool as BoolV, Text, Nothing}
use Rattle.loop_data.specs.declared.value.Value.TheOpen.{Value-F as v}
use Rattle.loop_data.specs.declared.value.ValueKind.{ValueKind, the_lemmas as kind_lemmas}
use Rattle.loop_data.specs.declared.value.ValueKind.TheVariants as value_kind
use Rattle.loop_data.specs.declared.tower.Kind.{Kind, out-Kind, roll-Kind, fold-roll-Kind, map-Kind, the_lemmas as tower_lemmas}
use Rattle.loop_data.specs.declared.tower.Kind.TheOpen.{Kind-F, Kind-F as k}
use Rattle.loop_data.specs.declared.tower.Kind.TheVariants as kind
use Rattle.loop_data.specs.declared.tower.TowerExpr.{TowerExpr, fold-roll-TowerExpr, ind-TowerExpr, map-TowerExpr}
use Rattle.loop_data.specs.declared.tower.TowerExpr.TheOpen.{TowerExpr-F, TowerExpr-F as t}
use Rattle.loop_data.specs.ValueParts.{left_of, right_of}
use Rattle.loop_values.specs.declared.stop.TypeStop.{TypeStop}
use Rattle.loop_values.specs.Bindings.{Names, place_name}
use Rattle.loop_values.specs.Fits as fi
use Rattle.loop_values.specs.Fits.{Agree, fits, fits_tower, is_extreme, is_int_at, is_bool_at, is_text_at, is_nothing_at, is_pair, is_place_at}
use Rattle.loop_values.specs.Kinds.{Kinds, Kinded, AreWellFormed, is_bool, is_int, is_maybe, is_plain_kind, is_text, is_well_formed, kind_of}
use Rattle.loop_values.specs.NamesIn.{PlaceIsBound, names_in}
use Rattle.loop_values.specs.Operations.{Outcome, and_then}
use Rattle.loop_values.specs.Values.{Meaning, bound, value_of}
use Rattle.loop_values.proofs.FormedLemmas.{kinds_formed}
use Rattle.loop_values.proofs.PlainLemmas.{bool_value, fitting_is_plain, formed_plain, int_value, text_value}
use Rattle.loop_values.proofs.SoundLemmas.{both-true, is_bool-is, is_int-is, is_text-is, sound}
use Rattle.tower_inputs.specs.InputKinds.{InputKinds, both_kinds, followed_by, input_kinds_step, kind_that, kinds_of_input, one_kind, takes, takes_at}
use Rattle.tower_inputs.specs.Inputs.{input_of, input_step, pair_of, paired}
use Rattle.tower_inputs.specs.Laws.{HasPlace}
use Rattle.tower_inputs.specs.Towers.{kind_of_tower, tower_step, with_place, with_place_at}
use Rattle.tower_inputs.proofs.SameTowers.{rolled}

-- ---- values

int_here : (n : ℤ) → is_int_at (out-Value (Int n)) ≡ true
int_here n = search (rules, value_lemmas)

bool_here : (b : Bool) → is_bool_at (out-Value (BoolV b)) ≡ true
bool_here b = search (rules, value_lemmas)

text_here : (s : List ℕ) → is_text_at (out-Value (Text s)) ≡ true
text_here s = search (rules, value_lemmas)

nothing_here : is_nothing_at (out-Value Nothing) ≡ true
nothing_here = search (rules, value_lemmas)

pair_here : (a b : Value) → is_pair (pair_of a b) ≡ true
pair_here a b = search (rules, value_lemmas)

left_here : (a b : Value) → left_of (pair_of a b) ≡ a
left_here a b = search (rules, value_lemmas)

right_here : (a b : Value) → right_of (pair_of a b) ≡ b
right_here a b = search (rules, value_lemmas)

place_here : (n : ℤ) → is_place_at (out-Value (Int n)) ≡ is_place_at (v.Int n)
place_here n = search (rules, value_lemmas)

or-true : (a b : Bool) → (a || b) ≡ true → (a ≡ true) ⊎ (b ≡ true)
or-true true b e = inl refl
or-true false b e = inr e

both-hold : (a b : Bool) → a ≡ true → b ≡ true → (a && b) ≡ true
both-hold true b e h = h
both-hold false b e h = e

or-left : (a b : Bool) → a ≡ true → (a || b) ≡ true
or-left true b e = refl
or-left false b e = absurd (cc)

or-right : (a b : Bool) → b ≡ true → (a || b) ≡ true
or-right true b e = refl
or-right false b e = e

module _ (x : ValueKind) (w : Value) (h : fits x w ≡ true) where
  is_int_value : is_int x ≡ true → is_int_at (out-Value w) ≡ true
  is_int_value i =
      let p = int_value x w i h in
      subst (λ u. is_int_at (out-Value u) ≡ true) (sym p.1) (int_here p.0)

  is_bool_value : is_bool x ≡ true → is_bool_at (out-Value w) ≡ true
  is_bool_value i =
      let p = bool_value x w i h in
      subst (λ u. is_bool_at (out-Value u) ≡ true) (sym p.1) (bool_here p.0)

  is_text_value : is_text x ≡ true → is_text_at (out-Value w) ≡ true
  is_text_value i =
      let p = text_value x w i h in
      subst (λ u. is_text_at (out-Value u) ≡ true) (sym p.1) (text_here p.0)

  is_either : (is_int x ≡ true) ⊎ (is_text x ≡ true) → is_extreme w ≡ true
  is_either (inl i) = or-left (is_int_at (out-Value w)) (is_text_at (out-Value w)) (is_int_value i)
  is_either (inr i) = or-right (is_int_at (out-Value w)) (is_text_at (out-Value w)) (is_text_value i)

  is_extreme_value : (is_int x || is_text x) ≡ true → is_extreme w ≡ true
  is_extreme_value i = is_either (or-true (is_int x) (is_text x) i)

not-false : (b : Bool) → not b ≡ true → b ≡ false
not-false true e = sym e
not-false false e = refl

-- ---- towers of one expression

abbrev layer_fits : Kind-F Kind → Value → Bool
layer_fits z = fi.input_step (map-Kind Kind (Value → Bool) fits_tower z)

fits_eq : (leaf : Kind) (w : Value) → fits_tower leaf w ≡ layer_fits (out-Kind leaf) w
fits_eq leaf w = ap (λ y. fits_tower y w) (sym (rolled leaf)) ∙ ap (λ m. m w) (fold-roll-Kind (Value → Bool) fi.input_step (out-Kind leaf))

one_fits : (z : Kind-F Kind) (x : ValueKind) (w : Value) → takes_at z x ≡ true → with_place_at z ≡ false → is_well_formed x ≡ true → fits x w ≡ true → layer_fits z w ≡ true
one_fits k.Sum x w a p f h = is_int_value x w h a
one_fits k.Prod x w a p f h = is_int_value x w h a
one_fits k.Least x w a p f h = is_extreme_value x w h a
one_fits k.Greatest x w a p f h = is_extreme_value x w h a
one_fits k.Any x w a p f h = is_bool_value x w h a
one_fits k.All x w a p f h = is_bool_value x w h a
one_fits k.First x w a p f h = fitting_is_plain x w f (not-false (is_maybe x) a) h
one_fits k.Last x w a p f h = fitting_is_plain x w f (not-false (is_maybe x) a) h
one_fits k.Listed x w a p f h = fitting_is_plain x w f (not-false (is_maybe x) a) h
one_fits k.LeastAt x w a p f h = absurd (cc)
one_fits k.GreatestAt x w a p f h = absurd (cc)
one_fits _ x w a p f h = absurd (cc)

pub start_fits : (leaf : Kind) (x : ValueKind) (w : Value) → takes leaf x ≡ true → with_place leaf ≡ false → is_well_formed x ≡ true → fits x w ≡ true → fits_tower leaf w ≡ true
start_fits leaf x w a p f h = fits_eq leaf w ∙ one_fits (out-Kind leaf) x w a p f h

placed_here : (x : ValueKind) (w : Value) (n : ℤ) → (is_int x || is_text x) ≡ true → fits x w ≡ true → is_place_at (v.Int n) ≡ true → fi.is_placed (pair_of w (Int n)) ≡ true
placed_here x w n a h p =
    let u = pair_of w (Int n) in
    let l : is_extreme (left_of u) ≡ true = ap is_extreme (left_here w (Int n)) ∙ is_extreme_value x w h a in
    let r : is_place_at (out-Value (right_of u)) ≡ true = ap (λ y. is_place_at (out-Value y)) (right_here w (Int n)) ∙ place_here n ∙ p in
    both-hold (is_pair u && is_extreme (left_of u)) _ (both-hold (is_pair u) _ (pair_here w (Int n)) l) r

place_fits : (z : Kind-F Kind) (x : ValueKind) (w : Value) (n : ℤ) → takes_at z x ≡ true → with_place_at z ≡ true → fits x w ≡ true → is_place_at (v.Int n) ≡ true → layer_fits z (pair_of w (Int n)) ≡ true
place_fits k.LeastAt x w n a p h q = placed_here x w n a h q
place_fits k.GreatestAt x w n a p h q = placed_here x w n a h q
place_fits _ x w n a p h q = absurd (cc)

with_place_fits : (leaf : Kind) (x : ValueKind) (w : Value) (n : ℤ) → takes leaf x ≡ true → with_place leaf ≡ true → fits x w ≡ true → is_place_at (v.Int n) ≡ true → fits_tower leaf (pair_of w (Int n)) ≡ true
with_place_fits leaf x w n a p h q = fits_eq leaf (pair_of w (Int n)) ∙ place_fits (out-Kind leaf) x w n a p h q

-- ---- what is known of an answer

then-ok : (r : Outcome) (f : Value → Outcome) (u : Value) → and_then r f ≡ Ok u → (w : Value) × (r ≡ Ok w) × (f w ≡ Ok u)
then-ok (Ok w) f u e = (w, refl, e)
then-ok (Err s) f u e = absurd (cc)

same_value : (w u : Value) → ◌≡◌ {A = Outcome} (Ok w) (Ok u) → w ≡ u
same_value w u e = cc

paired-ok : (w : Value) (r : Outcome) (u : Value) → paired w r ≡ Ok u → (y : Value) × (r ≡ Ok y) × (pair_of w y ≡ u)
paired-ok w (Ok y) u e = (y, refl, same_value (pair_of w y) u e)
paired-ok w (Err s) u e = absurd (cc)

one-ok : (b : Bool) (x : ValueKind) (ks : List ValueKind) → one_kind b x ≡ Ok ks → (b ≡ true) × (x ∷ [] ≡ ks)
one-ok true x ks e = (refl, cc)
one-ok false x ks e = absurd (cc)

that-ok : (test : ValueKind → Bool) (r : Kinded) (ks : List ValueKind) → kind_that test r ≡ Ok ks → (x : ValueKind) × (r ≡ Ok x) × (test x ≡ true) × (x ∷ [] ≡ ks)
that-ok test (Ok x) ks e =
    let p = one-ok (test x) x ks e in
    (x, refl, p.0, p.1)
that-ok test (Err s) ks e = absurd (cc)

followed-ok : (xs : List ValueKind) (r : InputKinds) (ks : List ValueKind) → followed_by xs r ≡ Ok ks → (ys : List ValueKind) × (r ≡ Ok ys) × (xs ++ ys ≡ ks)
followed-ok xs (Ok ys) ks e = (ys, refl, cc)
followed-ok xs (Err s) ks e = absurd (cc)

both-ok : (q r : InputKinds) (ks : List ValueKind) → both_kinds q r ≡ Ok ks → (xs : List ValueKind) × (ys : List ValueKind) × (q ≡ Ok xs) × (r ≡ Ok ys) × (xs ++ ys ≡ ks)
both-ok (Ok xs) r ks e =
    let p = followed-ok xs r ks e in
    (xs, p.0, refl, p.1, p.2)
both-ok (Err s) r ks e = absurd (cc)

-- ---- the tower

grouped_eq : (inner : Kind) (u : Value) → fits_tower (kind.Grouped inner) u ≡ (is_pair u && is_text_at (out-Value (left_of u)) && fits_tower inner (right_of u))
grouped_eq inner u = search (rules, tower_lemmas)

both_eq : (l r : Kind) (u : Value) → fits_tower (kind.Both l r) u ≡ (is_pair u && fits_tower l (left_of u) && fits_tower r (right_of u))
both_eq l r u = search (rules, tower_lemmas)

count_eq : (u : Value) → fits_tower kind.Count u ≡ is_nothing_at (out-Value u)
count_eq u = search (rules, tower_lemmas)

placed_everywhere : (env : Names) (ns : List (List ℕ)) → HasPlace env → PlaceIsBound env ns
placed_everywhere env [] p = tt
placed_everywhere env (n ∷ ns) p = ((λ e. (p.place, ap env e ∙ p.is)), placed_everywhere env ns p)

abbrev IsFitting : TowerExpr → Type 0
IsFitting x = (names : Kinds) (env : Names) (ks : List ValueKind) (u : Value) → AreWellFormed names → Agree names env → HasPlace env → kinds_of_input x names ≡ Ok ks → input_of x env ≡ Ok u → fits_tower (kind_of_tower x) u ≡ true

abbrev Such : Type 0
Such = (x : TowerExpr) × IsFitting x

abbrev bare : Such → TowerExpr
bare s = s.0

leaf_fits : (b : Bool) (leaf : Kind) (x : ValueKind) (env : Names) (w u : Value) → with_place leaf ≡ b → HasPlace env → takes leaf x ≡ true → is_well_formed x ≡ true → fits x w ≡ true → ◌≡◌ {A = Outcome} (if b then paired w (bound (env place_name)) else Ok w) (Ok u) → fits_tower leaf u ≡ true
leaf_fits true leaf x env w u is place a f h e =
    let q : paired w (bound (Some (Int place.place))) ≡ Ok u = subst (λ o. paired w (bound o) ≡ Ok u) place.is e in
    let same : pair_of w (Int place.place) ≡ u = same_value _ u q in
    subst (λ y. fits_tower leaf y ≡ true) same (with_place_fits leaf x w place.place a is h place.fit)
leaf_fits false leaf x env w u is place a f h e =
    subst (λ y. fits_tower leaf y ≡ true) (same_value w u e) (start_fits leaf x w a is f h)

pair_fits : (w y u : Value) (P : Value → Bool) (Q : Value → Bool) → pair_of w y ≡ u → P w ≡ true → Q y ≡ true → (is_pair u && P (left_of u) && Q (right_of u)) ≡ true
pair_fits w y u P Q e a b =
    subst (λ z. (is_pair z && P (left_of z) && Q (right_of z)) ≡ true) e
    (both-hold (is_pair (pair_of w y) && P (left_of (pair_of w y))) _ (both-hold (is_pair (pair_of w y)) _ (pair_here w y) (ap P (left_here w y) ∙ a)) (ap Q (right_here w y) ∙ b))

abbrev Typing : Type 0
Typing = Kinds → InputKinds

layer : (y : TowerExpr-F Such) (names : Kinds) (env : Names) (ks : List ValueKind) (u : Value) → AreWellFormed names → Agree names env → HasPlace env →
    input_kinds_step (map-TowerExpr TowerExpr Typing kinds_of_input (map-TowerExpr Such TowerExpr bare y)) names ≡ Ok ks →
    input_step (map-TowerExpr TowerExpr Meaning input_of (map-TowerExpr Such TowerExpr bare y)) env ≡ Ok u →
    fits_tower (tower_step (map-TowerExpr TowerExpr Kind kind_of_tower (map-TowerExpr Such TowerExpr bare y))) u ≡ true
layer (t.Leaf leaf x) names env ks u w g p h e =
    let a = that-ok (takes leaf) (kind_of x names) ks h in
    let b = then-ok (value_of x env) _ u e in
    let fit = (sound x names env a.0 g (placed_everywhere env (names_in x) p) a.1).fit b.0 b.1 in
    leaf_fits (with_place leaf) leaf a.0 env b.0 u refl p a.2 (kinds_formed x names a.0 w a.1) fit b.2
layer t.Count names env ks u w g p h e =
    subst (λ y. fits_tower kind.Count y ≡ true) (same_value Nothing u e) (count_eq Nothing ∙ nothing_here)
layer (t.Grouped key s) names env ks u w g p h e =
    let q = both-ok (kind_that is_text (kind_of key names)) (kinds_of_input s.0 names) ks h in
    let a = that-ok is_text (kind_of key names) q.0 q.2 in
    let b = then-ok (value_of key env) _ u e in
    let c = paired-ok b.0 (input_of s.0 env) u b.2 in
    let fit = (sound key names env a.0 g (placed_everywhere env (names_in key) p) a.1).fit b.0 b.1 in
    grouped_eq (kind_of_tower s.0) u
    ∙ pair_fits b.0 c.0 u (λ y. is_text_at (out-Value y)) (fits_tower (kind_of_tower s.0)) c.2 (is_text_value a.0 b.0 fit a.2) (s.1 names env q.1 c.0 w g p q.3 c.1)
layer (t.Both l r) names env ks u w g p h e =
    let q = both-ok (kinds_of_input l.0 names) (kinds_of_input r.0 names) ks h in
    let b = then-ok (input_of l.0 env) _ u e in
    let c = paired-ok b.0 (input_of r.0 env) u b.2 in
    both_eq (kind_of_tower l.0) (kind_of_tower r.0) u
    ∙ pair_fits b.0 c.0 u (fits_tower (kind_of_tower l.0)) (fits_tower (kind_of_tower r.0)) c.2 (l.1 names env q.0 b.0 w g p q.2 b.1) (r.1 names env q.1 c.0 w g p q.3 c.1)

pub input_fits : (x : TowerExpr) → IsFitting x
input_fits = ind-TowerExpr IsFitting (λ x y is names env ks u w g p h e.
    let a = ap (λ f. f names) (fold-roll-TowerExpr Typing input_kinds_step x) in
    let b = ap (λ f. f env) (fold-roll-TowerExpr Meaning input_step x) in
    let c = fold-roll-TowerExpr Kind tower_step x in
    let one = subst (λ z. input_kinds_step (map-TowerExpr TowerExpr Typing kinds_of_input z) names ≡ Ok ks → input_step (map-TowerExpr TowerExpr Meaning input_of z) env ≡ Ok u → fits_tower (tower_step (map-TowerExpr TowerExpr Kind kind_of_tower z)) u ≡ true) is (layer y names env ks u w g p) in
    ap (λ z. fits_tower z u) c ∙ one (sym a ∙ h) (sym b ∙ e))

-- ---- the kinds of an input have no Maybe in them

abbrev ArePlain : TowerExpr → Type 0
ArePlain x = (names : Kinds) (ks : List ValueKind) → AreWellFormed names → kinds_of_input x names ≡ Ok ks → list_all is_plain_kind ks ≡ true

abbrev Plain : Type 0
Plain = (x : TowerExpr) × ArePlain x

abbrev plain : Plain → TowerExpr
plain s = s.0

all_of_two : (xs ys : List ValueKind) → list_all is_plain_kind xs ≡ true → list_all is_plain_kind ys ≡ true → list_all is_plain_kind (xs ++ ys) ≡ true
all_of_two [] ys a b = b
all_of_two (x ∷ xs) ys a b =
    let p = both-true (is_plain_kind x) (list_all is_plain_kind xs) a in
    both-hold (is_plain_kind x) (list_all is_plain_kind (xs ++ ys)) p.0 (all_of_two xs ys p.1 b)

not_maybe-Int : is_maybe value_kind.Int ≡ false
not_maybe-Int = search (rules, kind_lemmas)

not_maybe-Bool : is_maybe value_kind.Bool ≡ false
not_maybe-Bool = search (rules, kind_lemmas)

not_maybe-Text : is_maybe value_kind.Text ≡ false
not_maybe-Text = search (rules, kind_lemmas)

int_not_maybe : (x : ValueKind) → is_int x ≡ true → is_maybe x ≡ false
int_not_maybe x i = subst (λ y. is_maybe y ≡ false) (sym (is_int-is x i)) not_maybe-Int

bool_not_maybe : (x : ValueKind) → is_bool x ≡ true → is_maybe x ≡ false
bool_not_maybe x i = subst (λ y. is_maybe y ≡ false) (sym (is_bool-is x i)) not_maybe-Bool

text_not_maybe : (x : ValueKind) → is_text x ≡ true → is_maybe x ≡ false
text_not_maybe x i = subst (λ y. is_maybe y ≡ false) (sym (is_text-is x i)) not_maybe-Text

either_not_maybe : (x : ValueKind) → (is_int x ≡ true) ⊎ (is_text x ≡ true) → is_maybe x ≡ false
either_not_maybe x (inl i) = int_not_maybe x i
either_not_maybe x (inr i) = text_not_maybe x i

-- what a tower takes isn't Maybe
taken_at : (z : Kind-F Kind) (x : ValueKind) → takes_at z x ≡ true → is_maybe x ≡ false
taken_at k.Sum x a = int_not_maybe x a
taken_at k.Prod x a = int_not_maybe x a
taken_at k.Least x a = either_not_maybe x (or-true (is_int x) (is_text x) a)
taken_at k.Greatest x a = either_not_maybe x (or-true (is_int x) (is_text x) a)
taken_at k.LeastAt x a = either_not_maybe x (or-true (is_int x) (is_text x) a)
taken_at k.GreatestAt x a = either_not_maybe x (or-true (is_int x) (is_text x) a)
taken_at k.Any x a = bool_not_maybe x a
taken_at k.All x a = bool_not_maybe x a
taken_at k.First x a = not-false (is_maybe x) a
taken_at k.Last x a = not-false (is_maybe x) a
taken_at k.Listed x a = not-false (is_maybe x) a
taken_at _ x a = absurd (cc)

one_plain : (x : ValueKind) (ks : List ValueKind) → x ∷ [] ≡ ks → is_plain_kind x ≡ true → list_all is_plain_kind ks ≡ true
one_plain x ks e a = subst (λ ys. list_all is_plain_kind ys ≡ true) e (both-hold (is_plain_kind x) true a refl)

two_plain : (xs ys ks : List ValueKind) → xs ++ ys ≡ ks → list_all is_plain_kind xs ≡ true → list_all is_plain_kind ys ≡ true → list_all is_plain_kind ks ≡ true
two_plain xs ys ks e a b = subst (λ zs. list_all is_plain_kind zs ≡ true) e (all_of_two xs ys a b)

none_plain : (ks : List ValueKind) → ◌≡◌ {A = InputKinds} (Ok []) (Ok ks) → list_all is_plain_kind ks ≡ true
none_plain [] e = refl
none_plain (x ∷ ks) e = absurd (cc)

layer_plain : (y : TowerExpr-F Plain) (names : Kinds) (ks : List ValueKind) → AreWellFormed names → input_kinds_step (map-TowerExpr TowerExpr Typing kinds_of_input (map-TowerExpr Plain TowerExpr plain y)) names ≡ Ok ks → list_all is_plain_kind ks ≡ true
layer_plain (t.Leaf leaf x) names ks w h =
    let a = that-ok (takes leaf) (kind_of x names) ks h in
    one_plain a.0 ks a.3 (formed_plain a.0 (kinds_formed x names a.0 w a.1) (taken_at (out-Kind leaf) a.0 a.2))
layer_plain t.Count names ks w h = none_plain ks h
layer_plain (t.Grouped key s) names ks w h =
    let q = both-ok (kind_that is_text (kind_of key names)) (kinds_of_input s.0 names) ks h in
    let a = that-ok is_text (kind_of key names) q.0 q.2 in
    two_plain q.0 q.1 ks q.4 (one_plain a.0 q.0 a.3 (formed_plain a.0 (kinds_formed key names a.0 w a.1) (text_not_maybe a.0 a.2))) (s.1 names q.1 w q.3)
layer_plain (t.Both l r) names ks w h =
    let q = both-ok (kinds_of_input l.0 names) (kinds_of_input r.0 names) ks h in
    two_plain q.0 q.1 ks q.4 (l.1 names q.0 w q.2) (r.1 names q.1 w q.3)

pub kinds_plain : (x : TowerExpr) → ArePlain x
kinds_plain = ind-TowerExpr ArePlain (λ x y is names ks w h.
    let a = ap (λ f. f names) (fold-roll-TowerExpr Typing input_kinds_step x) in
    let one = subst (λ z. input_kinds_step (map-TowerExpr TowerExpr Typing kinds_of_input z) names ≡ Ok ks → list_all is_plain_kind ks ≡ true) is (layer_plain y names ks w) in
    one (sym a ∙ h))

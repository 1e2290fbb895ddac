-- What fits a kind: the form of the value, its parts, and that it is plain.
use Rattle.std.proofs.Common.{◌≡◌, ◌≢◌, ℕ, Bool, true, false, List, [], ◌∷◌, length, map, refl, ap, sym, ◌∙◌, subst, rules, arith}
use Rattle.std.specs.Prelude.{◌&&◌, ℤ}
use Rattle.std.specs.List.{list_all}
use Rattle.loop_data.specs.declared.value.Value.{Value, out-Value, roll-Value, map-Value, the_lemmas as value_lemmas}
use Rattle.loop_data.specs.declared.value.Value.TheOpen.{Value-F, Value-F as val}
use Rattle.loop_data.specs.declared.value.Value.TheVariants.{Int, Bool as BoolV, Text, Nothing, Tuple}
use Rattle.loop_data.specs.declared.value.ValueKind.{ValueKind, out-ValueKind, ind-ValueKind, fold-roll-ValueKind, map-ValueKind, the_lemmas as kind_lemmas}
use Rattle.loop_data.specs.declared.value.ValueKind.TheOpen.{ValueKind-F, ValueKind-F as k}
use Rattle.loop_data.specs.declared.value.ValueKind.TheVariants as kind
use Rattle.loop_values.specs.Fits.{fits, fits_at, fits_step, all_fit, is_plain, plain_step}
use Rattle.loop_values.specs.Kinds.{is_bool, is_int, is_maybe, is_maybe_at, is_plain_kind, is_text, is_tuple_length, is_well_formed, inside_maybe_at, plain_kind_step}
use Rattle.loop_values.specs.Laws.{IsFittingTuple}
use Rattle.loop_values.proofs.SoundLemmas.{both-true, is_bool-is, is_int-is, is_text-is, maybe_eq}

-- ---- a value is what it is rolled of

pub rolled_value : (v : Value) → roll-Value (out-Value v) ≡ v
rolled_value v = search (rules, value_lemmas)

pub rolled_as : (v : Value) (z : Value-F Value) → out-Value v ≡ z → v ≡ roll-Value z
rolled_as v z is = sym (rolled_value v) ∙ ap roll-Value is

roll-Int : (n : ℤ) → roll-Value (val.Int n) ≡ Int n
roll-Int n = search (rules, value_lemmas)

roll-Bool : (b : Bool) → roll-Value (val.Bool b) ≡ BoolV b
roll-Bool b = search (rules, value_lemmas)

roll-Text : (t : List ℕ) → roll-Value (val.Text t) ≡ Text t
roll-Text t = search (rules, value_lemmas)

roll-Nothing : roll-Value val.Nothing ≡ Nothing
roll-Nothing = search (rules, value_lemmas)

roll-Tuple : (vs : List Value) → roll-Value (val.Tuple vs) ≡ Tuple vs
roll-Tuple vs = search (rules, value_lemmas)

-- ---- the value of a kind

int_eq : (v : Value) → fits kind.Int v ≡ fits_at k.Int (out-Value v) v
int_eq v = search (rules, value_lemmas, kind_lemmas)

bool_eq : (v : Value) → fits kind.Bool v ≡ fits_at k.Bool (out-Value v) v
bool_eq v = search (rules, value_lemmas, kind_lemmas)

text_eq : (v : Value) → fits kind.Text v ≡ fits_at k.Text (out-Value v) v
text_eq v = search (rules, value_lemmas, kind_lemmas)

tuple_eq : (ks : List ValueKind) (v : Value) → fits (kind.Tuple ks) v ≡ fits_at (k.Tuple (map fits ks)) (out-Value v) v
tuple_eq ks v = search (rules, value_lemmas, kind_lemmas)

int_at : (z : Value-F Value) (v : Value) → fits_at k.Int z v ≡ true → (n : ℤ) × (z ≡ val.Int n)
int_at (val.Int n) v e = (n, refl)
int_at _ v e = absurd (cc)

bool_at : (z : Value-F Value) (v : Value) → fits_at k.Bool z v ≡ true → (b : Bool) × (z ≡ val.Bool b)
bool_at (val.Bool b) v e = (b, refl)
bool_at _ v e = absurd (cc)

text_at : (z : Value-F Value) (v : Value) → fits_at k.Text z v ≡ true → (t : List ℕ) × (z ≡ val.Text t)
text_at (val.Text t) v e = (t, refl)
text_at _ v e = absurd (cc)

tuple_at : (fs : List (Value → Bool)) (z : Value-F Value) (v : Value) → fits_at (k.Tuple fs) z v ≡ true →
    (vs : List Value) × (z ≡ val.Tuple vs) × (all_fit fs vs ≡ true)
tuple_at fs (val.Tuple vs) v e = (vs, refl, e)
tuple_at fs _ v e = absurd (cc)

pub int_value : (x : ValueKind) (v : Value) → is_int x ≡ true → fits x v ≡ true → (n : ℤ) × (v ≡ Int n)
int_value x v i h =
    let g : fits kind.Int v ≡ true = subst (λ y. fits y v ≡ true) (is_int-is x i) h in
    let p = int_at (out-Value v) v (sym (int_eq v) ∙ g) in
    (p.0, rolled_as v _ p.1 ∙ roll-Int p.0)

pub bool_value : (x : ValueKind) (v : Value) → is_bool x ≡ true → fits x v ≡ true → (b : Bool) × (v ≡ BoolV b)
bool_value x v i h =
    let g : fits kind.Bool v ≡ true = subst (λ y. fits y v ≡ true) (is_bool-is x i) h in
    let p = bool_at (out-Value v) v (sym (bool_eq v) ∙ g) in
    (p.0, rolled_as v _ p.1 ∙ roll-Bool p.0)

pub text_value : (x : ValueKind) (v : Value) → is_text x ≡ true → fits x v ≡ true → (t : List ℕ) × (v ≡ Text t)
text_value x v i h =
    let g : fits kind.Text v ≡ true = subst (λ y. fits y v ≡ true) (is_text-is x i) h in
    let p = text_at (out-Value v) v (sym (text_eq v) ∙ g) in
    (p.0, rolled_as v _ p.1 ∙ roll-Text p.0)

-- ---- tuples

pub fit_lengths : (ks : List ValueKind) (vs : List Value) → all_fit (map fits ks) vs ≡ true → length vs ≡ length ks
fit_lengths [] [] e = refl
fit_lengths [] (v ∷ vs) e = absurd (cc)
fit_lengths (x ∷ ks) [] e = absurd (cc)
fit_lengths (x ∷ ks) (v ∷ vs) e =
    let p = both-true (fits x v) _ e in
    let rest = fit_lengths ks vs p.1 in
    grind arith

pub tuple_fits : (ks : List ValueKind) (v : Value) → fits (kind.Tuple ks) v ≡ true → IsFittingTuple ks v
tuple_fits ks v h =
    let p = tuple_at (map fits ks) (out-Value v) v (sym (tuple_eq ks v) ∙ h) in
    record {
      parts = p.0;
      is = rolled_as v _ p.1 ∙ roll-Tuple p.0;
      fit = p.2;
      count = fit_lengths ks p.0 p.2;
    }

-- ---- nothing

not_nothing_at : (f : Value → Bool) (z : Value-F Value) (v : Value) → (z ≡ val.Nothing → ⊥) → fits_at (k.Maybe f) z v ≡ true → f v ≡ true
not_nothing_at f val.Nothing v ne e = absurd (ne refl)
not_nothing_at f _ v ne e = e

pub not_nothing : (x : ValueKind) (v : Value) → v ≢ Nothing → fits (kind.Maybe x) v ≡ true → fits x v ≡ true
not_nothing x v ne h =
    not_nothing_at (fits x) (out-Value v) v (λ is. ne (rolled_as v _ is ∙ roll-Nothing)) (sym (maybe_eq x v) ∙ h)

-- ---- plain

abbrev IsPlain : ValueKind → Type 0
IsPlain x = (v : Value) → is_plain_kind x ≡ true → fits x v ≡ true → is_plain v ≡ true

abbrev Such : Type 0
Such = (x : ValueKind) × IsPlain x

abbrev bare : Such → ValueKind
bare s = s.0

both-hold : (a b : Bool) → a ≡ true → b ≡ true → (a && b) ≡ true
both-hold true b e h = h
both-hold false b e h = e

abbrev holds : Bool → Bool
holds p = p

parts_plain : (ss : List Such) (vs : List Value) → list_all (λ p. p) (map is_plain_kind (map bare ss)) ≡ true → all_fit (map fits (map bare ss)) vs ≡ true → list_all (λ p. p) (map is_plain vs) ≡ true
parts_plain [] [] a e = refl
parts_plain [] (v ∷ vs) a e = absurd (cc)
parts_plain (s ∷ ss) [] a e = absurd (cc)
parts_plain (s ∷ ss) (v ∷ vs) a e =
    let p = both-true (is_plain_kind s.0) _ a in
    let q = both-true (fits s.0 v) _ e in
    both-hold (is_plain v) _ (s.1 v p.0 q.0) (parts_plain ss vs p.1 q.1)

pub length_map : {A B : Type 0} (f : A → B) (xs : List A) → length (map f xs) ≡ length xs
length_map f [] = refl
length_map f (x ∷ xs) =
    let rest = length_map f xs in
    grind arith

tuple_plain : (ss : List Such) (vs : List Value) → plain_kind_step (k.Tuple (map is_plain_kind (map bare ss))) ≡ true → all_fit (map fits (map bare ss)) vs ≡ true → plain_step (val.Tuple (map is_plain vs)) ≡ true
tuple_plain ss vs a e =
    let p = both-true (is_tuple_length (length (map is_plain_kind (map bare ss)))) _ a in
    let n : length (map is_plain_kind (map bare ss)) ≡ length (map is_plain vs) =
    length_map is_plain_kind (map bare ss) ∙ sym (fit_lengths (map bare ss) vs e) ∙ sym (length_map is_plain vs) in
    both-hold _ _ (subst (λ l. is_tuple_length l ≡ true) n p.0) (parts_plain ss vs p.1 e)

layer_plain : (y : ValueKind-F Such) (z : Value-F Value) (v : Value) → plain_kind_step (map-ValueKind ValueKind Bool is_plain_kind (map-ValueKind Such ValueKind bare y)) ≡ true → fits_at (map-ValueKind ValueKind (Value → Bool) fits (map-ValueKind Such ValueKind bare y)) z v ≡ true → plain_step (map-Value Value Bool is_plain z) ≡ true
layer_plain k.Int (val.Int n) v a e = refl
layer_plain k.Bool (val.Bool b) v a e = refl
layer_plain k.Text (val.Text t) v a e = refl
layer_plain (k.Tuple ss) (val.Tuple vs) v a e = tuple_plain ss vs a e
layer_plain _ _ v a e = absurd (cc)

plain_eq : (v : Value) → is_plain v ≡ plain_step (map-Value Value Bool is_plain (out-Value v))
plain_eq v = search (rules, value_lemmas)

pub plain_fits : (x : ValueKind) → IsPlain x
plain_fits = ind-ValueKind IsPlain (λ x y is v a e.
    let f = ap (λ m. m v) (fold-roll-ValueKind (Value → Bool) fits_step x) in
    let p = fold-roll-ValueKind Bool plain_kind_step x in
    let layer = subst (λ w. plain_kind_step (map-ValueKind ValueKind Bool is_plain_kind w) ≡ true → fits_at (map-ValueKind ValueKind (Value → Bool) fits w) (out-Value v) v ≡ true → plain_step (map-Value Value Bool is_plain (out-Value v)) ≡ true) is (layer_plain y (out-Value v) v) in
    plain_eq v ∙ layer (sym p ∙ a) (sym f ∙ e))

-- ---- well formed

inside_plain : (z : ValueKind-F ValueKind) (x : ValueKind) → is_maybe_at z ≡ false → is_plain_kind (inside_maybe_at z x) ≡ true → is_plain_kind x ≡ true
inside_plain (k.Maybe y) x m h = absurd (cc)
inside_plain _ x m h = h

-- a well-formed kind that isn't Maybe has no Maybe in it
pub formed_plain : (x : ValueKind) → is_well_formed x ≡ true → is_maybe x ≡ false → is_plain_kind x ≡ true
formed_plain x w m = inside_plain (out-ValueKind x) x m w

pub fitting_is_plain : (x : ValueKind) (v : Value) → is_well_formed x ≡ true → is_maybe x ≡ false → fits x v ≡ true → is_plain v ≡ true
fitting_is_plain x v w m e = plain_fits x v (formed_plain x w m) e

-- The order of values: any two are in order, and only equal ones tie.
use Rattle.std.proofs.Common.{◌≡◌, ℕ, Bool, true, false, List, [], ◌∷◌, map, refl, ap, sym, ◌∙◌, subst, rules, ℤ}
use Rattle.std.specs.Ordering.{is_eq, is_lt, ordering_then, ordering_reverse, nat_cmp, int_cmp, bool_cmp, eq_by_cmp}
use Rattle.std.specs.Ordering.{as_partial_cmp}
use Rattle.std.specs.declared.cmp.Ordering.{Ordering}
use Rattle.std.specs.declared.cmp.Ordering.TheVariants.{Less, Equal, Greater}
use Rattle.std.specs.Cmp.{IsTotalOrder, IsEquivalence, IsPartialEquivalence, IsPartialOrder, bool_cmp_total, eq_by_cmp_equiv}
use Rattle.std.specs.Cmp.{partial_equiv_from_equiv, partial_order_from_total}
use Rattle.std.specs.Cmp.Lexicographic.{slice_cmp}
use Rattle.std.specs.FinMap.{int_cmp-IsAntisymmetric, nat_cmp-IsAntisymmetric, slice_cmp-IsAntisymmetric}
use Rattle.std.proofs.lemmas.Cmp.{int_cmp_total, nat_list_cmp_total}
use Rattle.loop_data.specs.declared.value.Value.{Value, out-Value, roll-Value, ind-Value, fold-roll-Value, map-Value, the_lemmas}
use Rattle.loop_data.specs.declared.value.Value.TheVariants as value
use Rattle.loop_data.specs.declared.value.Value.TheOpen.{Value-F, Value-F as v}
use Rattle.loop_data.specs.ValueOrder.{value_cmp, order_of, order_step}

-- ---- one layer of both values

-- the parts of the left, each by its own answers, with those of the right
abbrev parts_cmp : List Value → List Value → Ordering
parts_cmp xs ys = slice_cmp (λ compare part. compare part) (map value_cmp xs) ys

abbrev layer : Value-F Value → Value-F Value → Ordering
layer x y = order_of (map-Value Value (Value → Ordering) value_cmp x) y

rolled : (b : Value) → roll-Value (out-Value b) ≡ b
rolled b = search (rules, the_lemmas)

out_rolled : (x : Value-F Value) → out-Value (roll-Value x) ≡ x
out_rolled x = search (rules, the_lemmas)

at_left : (x : Value-F Value) (b : Value) → value_cmp (roll-Value x) b ≡ layer x (out-Value b)
at_left x b = ap (λ m. m b) (fold-roll-Value (Value → Ordering) order_step x)

at_both : (a b : Value) → value_cmp a b ≡ layer (out-Value a) (out-Value b)
at_both a b = subst (λ z. value_cmp z b ≡ layer (out-Value a) (out-Value b)) (rolled a) (at_left (out-Value a) b)

at_right : (a : Value) (x : Value-F Value) → value_cmp a (roll-Value x) ≡ layer (out-Value a) x
at_right a x = at_both a (roll-Value x) ∙ ap (λ z. layer (out-Value a) z) (out_rolled x)

-- ---- answers

not_equal : {o : Ordering} → o ≡ Equal → is_eq o ≡ false → ⊥
not_equal e f = absurd (cc)

not_less : {o : Ordering} → o ≡ Less → is_lt o ≡ false → ⊥
not_less e f = absurd (cc)

then_reversed : (o p : Ordering) → ordering_then (ordering_reverse o) (ordering_reverse p) ≡ ordering_reverse (ordering_then o p)
then_reversed Less p = refl
then_reversed Equal p = refl
then_reversed Greater p = refl

then_equal : (o p : Ordering) → ordering_then o p ≡ Equal → (o ≡ Equal) × (p ≡ Equal)
then_equal Less p e = absurd (not_equal e refl)
then_equal Equal p e = (refl, e)
then_equal Greater p e = absurd (not_equal e refl)

own_reverse : (o : Ordering) → o ≡ ordering_reverse o → o ≡ Equal
own_reverse Less e = absurd (not_less (sym e) refl)
own_reverse Equal e = refl
own_reverse Greater e = absurd (not_less e refl)

-- ---- either way round

abbrev IsReversed : Value → Type 0
IsReversed a = (b : Value) → value_cmp a b ≡ ordering_reverse (value_cmp b a)

abbrev Reversed : Type 0
Reversed = (a : Value) × IsReversed a

abbrev of_reversed : Reversed → Value
of_reversed t = t.0

all_reversed : (ts : List Reversed) (ys : List Value) →
    parts_cmp (map of_reversed ts) ys ≡ ordering_reverse (parts_cmp ys (map of_reversed ts))
all_reversed [] [] = refl
all_reversed [] (y ∷ ys) = refl
all_reversed (t ∷ ts) [] = refl
all_reversed (t ∷ ts) (y ∷ ys) =
    (λ i. ordering_then (t.1 y i) (all_reversed ts ys i)) ∙ then_reversed (value_cmp y t.0) (parts_cmp ys (map of_reversed ts))

layer_reversed : (x : Value-F Reversed) (y : Value-F Value) →
    layer (map-Value Reversed Value of_reversed x) y ≡ ordering_reverse (layer y (map-Value Reversed Value of_reversed x))
layer_reversed (v.Int a) (v.Int b) = int_cmp_total.antisymm a b
layer_reversed (v.Text a) (v.Text b) = nat_list_cmp_total.antisymm a b
layer_reversed (v.Bool a) (v.Bool b) = bool_cmp_total.antisymm a b
layer_reversed v.Nothing v.Nothing = refl
layer_reversed (v.Tuple ts) (v.Tuple ys) = all_reversed ts ys
layer_reversed _ _ = refl

pub reversed : (a b : Value) → value_cmp a b ≡ ordering_reverse (value_cmp b a)
reversed = ind-Value IsReversed (λ x y is b.
    let as_reversed : Value-F Value → Type 0 = λ z. layer z (out-Value b) ≡ ordering_reverse (layer (out-Value b) z) in
    let here = subst as_reversed is (layer_reversed y (out-Value b)) in
    at_left x b ∙ here ∙ sym (ap ordering_reverse (at_right b x)))

pub itself : (a : Value) → value_cmp a a ≡ Equal
itself a = own_reverse (value_cmp a a) (reversed a a)

-- ---- only equal values tie

abbrev IsTied : Value → Type 0
IsTied a = (b : Value) → value_cmp a b ≡ Equal → a ≡ b

abbrev Tied : Type 0
Tied = (a : Value) × IsTied a

abbrev of_tied : Tied → Value
of_tied t = t.0

all_tied : (ts : List Tied) (ys : List Value) → parts_cmp (map of_tied ts) ys ≡ Equal → map of_tied ts ≡ ys
all_tied [] [] e = refl
all_tied [] (y ∷ ys) e = absurd (not_equal e refl)
all_tied (t ∷ ts) [] e = absurd (not_equal e refl)
all_tied (t ∷ ts) (y ∷ ys) e =
    let both = then_equal (value_cmp t.0 y) (parts_cmp (map of_tied ts) ys) e in
    λ i. t.1 y both.0 i ∷ all_tied ts ys both.1 i

bool_tied : (a b : Bool) → bool_cmp a b ≡ Equal → a ≡ b
bool_tied true true e = refl
bool_tied true false e = absurd (not_equal e refl)
bool_tied false true e = absurd (not_equal e refl)
bool_tied false false e = refl

layer_tied : (x : Value-F Tied) (y : Value-F Value) → layer (map-Value Tied Value of_tied x) y ≡ Equal →
    map-Value Tied Value of_tied x ≡ y
layer_tied (v.Int a) (v.Int b) e = ap (λ n. v.Int n) (int_cmp-IsAntisymmetric a b e)
layer_tied (v.Text a) (v.Text b) e = ap (λ t. v.Text t) (slice_cmp-IsAntisymmetric nat_cmp-IsAntisymmetric a b e)
layer_tied (v.Bool a) (v.Bool b) e = ap (λ t. v.Bool t) (bool_tied a b e)
layer_tied v.Nothing v.Nothing e = refl
layer_tied (v.Tuple ts) (v.Tuple ys) e = ap (λ l. v.Tuple l) (all_tied ts ys e)
layer_tied _ _ e = absurd (not_equal e refl)

pub tied : (a b : Value) → value_cmp a b ≡ Equal → a ≡ b
tied = ind-Value IsTied (λ x y is b e.
    let here = subst (λ z. layer z (out-Value b) ≡ Equal) (sym is) (sym (at_left x b) ∙ e) in
    ap roll-Value (sym is ∙ layer_tied y (out-Value b) here) ∙ rolled b)

-- ---- from one to the next

abbrev IsChained : Value → Type 0
IsChained a = (b c : Value) → is_lt (value_cmp a b) ≡ true → is_lt (value_cmp b c) ≡ true → is_lt (value_cmp a c) ≡ true

abbrev Chained : Type 0
Chained = (a : Value) × IsChained a

abbrev of_chained : Chained → Value
of_chained t = t.0

less_of : (o : Ordering) → is_lt o ≡ true → o ≡ Less
less_of Less e = refl
less_of Equal e = absurd (cc)
less_of Greater e = absurd (cc)

module _ (a b c : Value) (xs ys zs : Ordering) (first : is_lt (value_cmp a b) ≡ true → is_lt (value_cmp b c) ≡ true →
    is_lt (value_cmp a c) ≡ true) (rest : is_lt xs ≡ true → is_lt ys ≡ true → is_lt zs ≡ true) where
  then_chained : (o p : Ordering) → value_cmp a b ≡ o → value_cmp b c ≡ p → is_lt (ordering_then o xs) ≡ true →
      is_lt (ordering_then p ys) ≡ true → is_lt (ordering_then (value_cmp a c) zs) ≡ true
  then_chained Less Less e f h g = ap (λ r. is_lt (ordering_then r zs)) (less_of _ (first (ap is_lt e) (ap is_lt f)))
  then_chained Less Equal e f h g = ap (λ r. is_lt (ordering_then r zs)) (ap (value_cmp a) (sym (tied b c f)) ∙ e)
  then_chained Equal Less e f h g = ap (λ r. is_lt (ordering_then r zs)) (ap (λ x. value_cmp x c) (tied a b e) ∙ f)
  then_chained Equal Equal e f h g = ap (λ r. is_lt (ordering_then r zs)) (ap (λ x. value_cmp x c) (tied a b e) ∙ f) ∙ rest h g
  then_chained Less Greater e f h g = absurd (cc)
  then_chained Equal Greater e f h g = absurd (cc)
  then_chained Greater p e f h g = absurd (cc)

all_chained : (ts : List Chained) (ys zs : List Value) → is_lt (parts_cmp (map of_chained ts) ys) ≡ true →
    is_lt (parts_cmp ys zs) ≡ true → is_lt (parts_cmp (map of_chained ts) zs) ≡ true
all_chained [] [] zs h g = g
all_chained [] (y ∷ ys) [] h g = g
all_chained [] (y ∷ ys) (z ∷ zs) h g = refl
all_chained (t ∷ ts) [] zs h g = absurd (cc)
all_chained (t ∷ ts) (y ∷ ys) [] h g = g
all_chained (t ∷ ts) (y ∷ ys) (z ∷ zs) h g =
    then_chained t.0 y z _ _ _ (t.1 y z) (all_chained ts ys zs) (value_cmp t.0 y) (value_cmp y z) refl refl h g

int_chained : (a b c : ℤ) → is_lt (int_cmp a b) ≡ true → is_lt (int_cmp b c) ≡ true → is_lt (int_cmp a c) ≡ true
int_chained a b c h g = ap is_lt (int_cmp_total.trans a b c (less_of _ h) (less_of _ g))

text_chained : (a b c : List ℕ) → is_lt (slice_cmp nat_cmp a b) ≡ true → is_lt (slice_cmp nat_cmp b c) ≡ true →
    is_lt (slice_cmp nat_cmp a c) ≡ true
text_chained a b c h g = ap is_lt (nat_list_cmp_total.trans a b c (less_of _ h) (less_of _ g))

bool_chained : (a b c : Bool) → is_lt (bool_cmp a b) ≡ true → is_lt (bool_cmp b c) ≡ true → is_lt (bool_cmp a c) ≡ true
bool_chained a b c h g = ap is_lt (bool_cmp_total.trans a b c (less_of _ h) (less_of _ g))

from_int : (a : ℤ) (y z : Value-F Value) → is_lt (layer (v.Int a) y) ≡ true → is_lt (layer y z) ≡ true →
    is_lt (layer (v.Int a) z) ≡ true
from_int a (v.Int b) (v.Int c) h g = int_chained a b c h g
from_int a (v.Text _) (v.Text _) h g = refl
from_int a (v.Bool _) (v.Bool _) h g = refl
from_int a v.Nothing v.Nothing h g = refl
from_int a (v.Tuple _) (v.Tuple _) h g = refl
from_int a _ _ h g = cc

from_text : (a : List ℕ) (y z : Value-F Value) → is_lt (layer (v.Text a) y) ≡ true → is_lt (layer y z) ≡ true →
    is_lt (layer (v.Text a) z) ≡ true
from_text a (v.Int _) (v.Int _) h g = absurd (cc)
from_text a (v.Text b) (v.Text c) h g = text_chained a b c h g
from_text a (v.Bool _) (v.Bool _) h g = refl
from_text a v.Nothing v.Nothing h g = refl
from_text a (v.Tuple _) (v.Tuple _) h g = refl
from_text a _ _ h g = cc

from_bool : (a : Bool) (y z : Value-F Value) → is_lt (layer (v.Bool a) y) ≡ true → is_lt (layer y z) ≡ true →
    is_lt (layer (v.Bool a) z) ≡ true
from_bool a (v.Int _) (v.Int _) h g = absurd (cc)
from_bool a (v.Text _) (v.Text _) h g = absurd (cc)
from_bool a (v.Bool b) (v.Bool c) h g = bool_chained a b c h g
from_bool a v.Nothing v.Nothing h g = refl
from_bool a (v.Tuple _) (v.Tuple _) h g = refl
from_bool a _ _ h g = cc

from_nothing : (y z : Value-F Value) → is_lt (layer v.Nothing y) ≡ true → is_lt (layer y z) ≡ true →
    is_lt (layer v.Nothing z) ≡ true
from_nothing (v.Int _) (v.Int _) h g = absurd (cc)
from_nothing (v.Text _) (v.Text _) h g = absurd (cc)
from_nothing (v.Bool _) (v.Bool _) h g = absurd (cc)
from_nothing v.Nothing v.Nothing h g = absurd (cc)
from_nothing (v.Tuple _) (v.Tuple _) h g = refl
from_nothing _ _ h g = cc

from_tuple : (ts : List Chained) (y z : Value-F Value) → is_lt (layer (v.Tuple (map of_chained ts)) y) ≡ true →
    is_lt (layer y z) ≡ true → is_lt (layer (v.Tuple (map of_chained ts)) z) ≡ true
from_tuple ts (v.Int _) (v.Int _) h g = absurd (cc)
from_tuple ts (v.Text _) (v.Text _) h g = absurd (cc)
from_tuple ts (v.Bool _) (v.Bool _) h g = absurd (cc)
from_tuple ts v.Nothing v.Nothing h g = absurd (cc)
from_tuple ts (v.Tuple b) (v.Tuple c) h g = all_chained ts b c h g
from_tuple ts _ _ h g = cc

layer_chained : (x : Value-F Chained) (y z : Value-F Value) → is_lt (layer (map-Value Chained Value of_chained x) y) ≡ true →
    is_lt (layer y z) ≡ true → is_lt (layer (map-Value Chained Value of_chained x) z) ≡ true
layer_chained (v.Int a) y z h g = from_int a y z h g
layer_chained (v.Text a) y z h g = from_text a y z h g
layer_chained (v.Bool a) y z h g = from_bool a y z h g
layer_chained v.Nothing y z h g = from_nothing y z h g
layer_chained (v.Tuple ts) y z h g = from_tuple ts y z h g

chained : (a b c : Value) → is_lt (value_cmp a b) ≡ true → is_lt (value_cmp b c) ≡ true → is_lt (value_cmp a c) ≡ true
chained = ind-Value IsChained (λ x y is b c h g.
    let left = subst (λ z. is_lt (layer z (out-Value b)) ≡ true) (sym is) (ap is_lt (sym (at_left x b)) ∙ h) in
    let right = ap is_lt (sym (at_both b c)) ∙ g in
    let here = layer_chained y (out-Value b) (out-Value c) left right in
    ap is_lt (at_left x c) ∙ subst (λ z. is_lt (layer z (out-Value c)) ≡ true) is here)

pub values_total : IsTotalOrder value_cmp
values_total = record {
  antisymm = reversed;
  trans = λ a b c h g. less_of _ (chained a b c (ap is_lt h) (ap is_lt g));
  congr = λ a b c e. ap (λ z. value_cmp z c) (tied a b e);
}

-- ---- tuples part by part

slice_cmp-map : (xs ys : List Value) → parts_cmp xs ys ≡ slice_cmp value_cmp xs ys
slice_cmp-map [] [] = refl
slice_cmp-map [] (y ∷ ys) = refl
slice_cmp-map (x ∷ xs) [] = refl
slice_cmp-map (x ∷ xs) (y ∷ ys) = ap (λ r. ordering_then (value_cmp x y) r) (slice_cmp-map xs ys)

-- tuples are ordered by their parts, as lists are
pub tuples_cmp : (xs ys : List Value) → value_cmp (value.Tuple xs) (value.Tuple ys) ≡ slice_cmp value_cmp xs ys
unfolding roll-Value out-Value denote.Hole.Carrier.roll
tuples_cmp xs ys =
    at_left (v.Tuple xs) (value.Tuple ys) ∙ ap (λ z. layer (v.Tuple xs) z) (out_rolled (v.Tuple ys)) ∙ slice_cmp-map xs ys

-- ---- what the comparisons owe

pub values_equiv : IsEquivalence (eq_by_cmp value_cmp)
values_equiv = eq_by_cmp_equiv values_total

pub values_per : IsPartialEquivalence (eq_by_cmp value_cmp)
values_per = partial_equiv_from_equiv values_equiv

pub values_po : IsPartialOrder (eq_by_cmp value_cmp) (as_partial_cmp value_cmp)
values_po = partial_order_from_total values_total

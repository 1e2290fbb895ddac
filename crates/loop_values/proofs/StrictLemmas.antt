-- Where an expression has a kind, its value is the one that the evaluator without defaults gives.
use Rattle.std.proofs.Common.{◌≡◌, ℕ, Bool, true, false, not, List, [], ◌∷◌, ◌++◌, length, map, Option, Some, None, Ok, Err, inl, inr, refl, ap, sym, ◌∙◌, subst, arith, length-append}
use Rattle.std.specs.Prelude.{◌&&◌, ◌||◌, ◌⊎◌, if◌then◌else◌, ℤ, option_map}
use Rattle.loop_data.specs.declared.value.Value.{Value, out-Value}
use Rattle.loop_data.specs.declared.value.Value.TheOpen.{Value-F, Value-F as val}
use Rattle.loop_data.specs.declared.value.Value.TheVariants.{Int, Bool as BoolV, Text, Tuple}
use Rattle.loop_data.specs.declared.value.ValueKind.{ValueKind, out-ValueKind, fold-roll-ValueKind, map-ValueKind}
use Rattle.loop_data.specs.declared.value.ValueKind.TheOpen.{ValueKind-F, ValueKind-F as k}
use Rattle.loop_data.specs.declared.value.ValueKind.TheVariants as kind
use Rattle.loop_data.specs.declared.expr.Op.{Op}
use Rattle.loop_data.specs.declared.expr.Op.TheVariants as op
use Rattle.loop_data.specs.declared.expr.Word.{Word}
use Rattle.loop_data.specs.declared.expr.Word.TheVariants as word
use Rattle.loop_data.specs.declared.expr.Expr.{Expr, fold-roll-Expr, ind-Expr, map-Expr}
use Rattle.loop_data.specs.declared.expr.Expr.TheOpen.{Expr-F, Expr-F as e}
use Rattle.loop_data.specs.ValueParts.{as_int, as_bool, as_text, is_equal}
use Rattle.loop_values.specs.Bindings.{Names, place_name}
use Rattle.loop_values.specs.Fits.{fits, fits_at, fits_step, Agree, IsFit}
use Rattle.loop_values.specs.Kinds as kn
use Rattle.loop_values.specs.Kinds.{Kinds, Kinded, Typing, kind_of, kind_step, kind_if, is_int, is_bool, is_text, is_maybe, is_tuple_length}
use Rattle.loop_values.specs.declared.stop.TypeStop.TheVariants.{Differs}
use Rattle.loop_values.specs.NamesIn.{names_in, names_step, all_names, or_none, PlaceIsBound}
use Rattle.loop_values.specs.Operations as ev
use Rattle.loop_values.specs.Operations.{Outcome, is_less}
use Rattle.loop_values.specs.StrictValues as st
use Rattle.loop_values.specs.StrictValues.{Strict, StrictMeaning, strict_value_of, strict_step}
use Rattle.loop_values.specs.Values as va
use Rattle.loop_values.specs.Values.{Meaning, value_of, value_step}
use Rattle.loop_values.proofs.PlainLemmas.{int_value, bool_value, text_value}
use Rattle.loop_values.proofs.SoundLemmas.{back, bool_else, bool_then, both-true, front, kind_if-ok, rolled, sound, then-ok}

-- ---- operands

or-true : (a b : Bool) → (a || b) ≡ true → (a ≡ true) ⊎ (b ≡ true)
or-true true b e = inl refl
or-true false b e = inr e

module _ (x : ValueKind) (v : Value) (h : fits x v ≡ true) where
  one_int : (f : ℤ → Outcome) → is_int x ≡ true → st.of_int f v ≡ Some (f (as_int v))
  one_int f i =
      let p = int_value x v i h in
      subst (λ u. st.of_int f u ≡ Some (f (as_int u))) (sym p.1) refl

  one_text : (f : List ℕ → Outcome) → is_text x ≡ true → st.of_text f v ≡ Some (f (as_text v))
  one_text f i =
      let p = text_value x v i h in
      subst (λ u. st.of_text f u ≡ Some (f (as_text u))) (sym p.1) refl

  one_bool : (f : Bool → Strict) → is_bool x ≡ true → st.with_bool v f ≡ f (as_bool v)
  one_bool f i =
      let p = bool_value x v i h in
      subst (λ u. st.with_bool u f ≡ f (as_bool u)) (sym p.1) refl

module _ (x y : ValueKind) (v w : Value) (h : fits x v ≡ true) (g : fits y w ≡ true) where
  two_ints : (f : ℤ → ℤ → Outcome) → (is_int x && is_int y) ≡ true → st.of_ints f v w ≡ Some (f (as_int v) (as_int w))
  two_ints f i =
      let b = both-true (is_int x) (is_int y) i in
      let p = int_value x v b.0 h in
      let q = int_value y w b.1 g in
      subst (λ u. st.of_ints f u w ≡ Some (f (as_int u) (as_int w))) (sym p.1) (subst (λ u. st.of_ints f (Int p.0) u ≡ Some (f p.0 (as_int u))) (sym q.1) refl)

  two_texts : (f : List ℕ → List ℕ → Outcome) → (is_text x && is_text y) ≡ true → st.of_texts f v w ≡ Some (f (as_text v) (as_text w))
  two_texts f i =
      let b = both-true (is_text x) (is_text y) i in
      let p = text_value x v b.0 h in
      let q = text_value y w b.1 g in
      subst (λ u. st.of_texts f u w ≡ Some (f (as_text u) (as_text w))) (sym p.1) (subst (λ u. st.of_texts f (Text p.0) u ≡ Some (f p.0 (as_text u))) (sym q.1) refl)

  -- what holds of two Int, and of two Text, holds of two that are ordered
  ordered : (P : Value → Value → Type 0) → ((a b : ℤ) → P (Int a) (Int b)) → ((a b : List ℕ) → P (Text a) (Text b)) → kn.is_ordered x y ≡ true → P v w
  ordered P ints texts o = elim (or-true (is_int x && is_int y) (is_text x && is_text y) o) [
    | inl i ↦
        let b = both-true (is_int x) (is_int y) i in
        let p = int_value x v b.0 h in
        let q = int_value y w b.1 g in
        subst (λ u. P u w) (sym p.1) (subst (λ u. P (Int p.0) u) (sym q.1) (ints p.0 q.0))
    | inr t ↦
        let b = both-true (is_text x) (is_text y) t in
        let p = text_value x v b.0 h in
        let q = text_value y w b.1 g in
        subst (λ u. P u w) (sym p.1) (subst (λ u. P (Text p.0) u) (sym q.1) (texts p.0 q.0))
  ]

  comparable : (P : Value → Value → Type 0) → ((a b : ℤ) → P (Int a) (Int b)) → ((a b : List ℕ) → P (Text a) (Text b)) → ((a b : Bool) → P (BoolV a) (BoolV b)) → kn.is_comparable x y ≡ true → P v w
  comparable P ints texts bools o = elim (or-true (kn.is_ordered x y) (is_bool x && is_bool y) o) [
    | inl i ↦ ordered P ints texts i
    | inr t ↦
        let b = both-true (is_bool x) (is_bool y) t in
        let p = bool_value x v b.0 h in
        let q = bool_value y w b.1 g in
        subst (λ u. P u w) (sym p.1) (subst (λ u. P (BoolV p.0) u) (sym q.1) (bools p.0 q.0))
  ]

  less : kn.is_ordered x y ≡ true → st.if_less v w ≡ Some (is_less v w)
  less o = ordered (λ a b. st.if_less a b ≡ Some (is_less a b)) (λ a b. refl) (λ a b. refl) o

  less_back : kn.is_ordered x y ≡ true → st.if_less w v ≡ Some (is_less w v)
  less_back o = ordered (λ a b. st.if_less b a ≡ Some (is_less b a)) (λ a b. refl) (λ a b. refl) o

  equal : kn.is_comparable x y ≡ true → st.if_equal v w ≡ Some (is_equal v w)
  equal o = comparable (λ a b. st.if_equal a b ≡ Some (is_equal a b)) (λ a b. refl) (λ a b. refl) (λ a b. refl) o

told_of : (o : Option Bool) (b : Bool) → o ≡ Some b → st.told o ≡ Some (ev.truth b)
told_of o b e = ap st.told e

told_not_of : (o : Option Bool) (b : Bool) → o ≡ Some b → st.told_not o ≡ Some (ev.truth (not b))
told_not_of o b e = ap st.told_not e

-- ---- going on

then_same : (x : ValueKind) (r : Outcome) (q : Strict) (f : Value → Strict) (g : Value → Outcome) → q ≡ Some r → IsFit x r → ((v : Value) → fits x v ≡ true → f v ≡ Some (g v)) → st.then_strictly q f ≡ Some (ev.and_then r g)
then_same x (Ok v) q f g e h s = ap (λ p. st.then_strictly p f) e ∙ s v (h.fit v refl)
then_same x (Err t) q f g e h s = ap (λ p. st.then_strictly p f) e

-- ---- the operations

needed : (b : Bool) (x z : ValueKind) → kind_if b x ≡ Ok z → b ≡ true
needed b x z e = (kind_if-ok b x z e).0

second_bool : (y : ValueKind) (r : Outcome) (q : Strict) → is_bool y ≡ true → q ≡ Some r → IsFit y r → st.then_strictly q (st.of_bool ev.truth) ≡ Some (ev.and_then r (λ w. ev.truth (as_bool w)))
second_bool y r q b e h = then_same y r q _ _ e h (λ w g. one_bool y w g (λ c. Some (ev.truth c)) b)

and_same : (b : Bool) (y : ValueKind) (r : Outcome) (q : Strict) → is_bool y ≡ true → q ≡ Some r → IsFit y r → (if b then st.then_strictly q (st.of_bool ev.truth) else Some (ev.truth false)) ≡ Some (va.second op.And (BoolV b) r)
and_same true y r q i e h = second_bool y r q i e h
and_same false y r q i e h = refl

or_same : (b : Bool) (y : ValueKind) (r : Outcome) (q : Strict) → is_bool y ≡ true → q ≡ Some r → IsFit y r → (if b then Some (ev.truth true) else st.then_strictly q (st.of_bool ev.truth)) ≡ Some (va.second op.Or (BoolV b) r)
or_same true y r q i e h = refl
or_same false y r q i e h = second_bool y r q i e h

module _ (x y z : ValueKind) (v : Value) (r : Outcome) (q : Strict) (h : fits x v ≡ true) (e : q ≡ Some r) (fit : IsFit y r) where
  by_ints : (f : ℤ → ℤ → Outcome) → kind_if (kn.both_of is_int x y) kind.Int ≡ Ok z → st.then_strictly q (st.of_ints f v) ≡ Some (ev.and_then r (λ w. f (as_int v) (as_int w)))
  by_ints f t = then_same y r q _ _ e fit (λ w g. two_ints x y v w h g f (needed _ _ z t))

  by_less : kind_if (kn.is_ordered x y) kind.Bool ≡ Ok z → st.then_strictly q (λ w. st.told (st.if_less v w)) ≡ Some (ev.and_then r (λ w. ev.truth (is_less v w)))
  by_less t = then_same y r q _ _ e fit (λ w g. told_of _ _ (less x y v w h g (needed _ _ z t)))

  by_less_not : kind_if (kn.is_ordered x y) kind.Bool ≡ Ok z → st.then_strictly q (λ w. st.told_not (st.if_less v w)) ≡ Some (ev.and_then r (λ w. ev.truth (not (is_less v w))))
  by_less_not t = then_same y r q _ _ e fit (λ w g. told_not_of _ _ (less x y v w h g (needed _ _ z t)))

  by_more : kind_if (kn.is_ordered x y) kind.Bool ≡ Ok z → st.then_strictly q (λ w. st.told (st.if_less w v)) ≡ Some (ev.and_then r (λ w. ev.truth (is_less w v)))
  by_more t = then_same y r q _ _ e fit (λ w g. told_of _ _ (less_back x y v w h g (needed _ _ z t)))

  by_more_not : kind_if (kn.is_ordered x y) kind.Bool ≡ Ok z → st.then_strictly q (λ w. st.told_not (st.if_less w v)) ≡ Some (ev.and_then r (λ w. ev.truth (not (is_less w v))))
  by_more_not t = then_same y r q _ _ e fit (λ w g. told_not_of _ _ (less_back x y v w h g (needed _ _ z t)))

  by_equal : kind_if (kn.is_comparable x y) kind.Bool ≡ Ok z → st.then_strictly q (λ w. st.told (st.if_equal v w)) ≡ Some (ev.and_then r (λ w. ev.truth (is_equal v w)))
  by_equal t = then_same y r q _ _ e fit (λ w g. told_of _ _ (equal x y v w h g (needed _ _ z t)))

  by_equal_not : kind_if (kn.is_comparable x y) kind.Bool ≡ Ok z → st.then_strictly q (λ w. st.told_not (st.if_equal v w)) ≡ Some (ev.and_then r (λ w. ev.truth (not (is_equal v w))))
  by_equal_not t = then_same y r q _ _ e fit (λ w g. told_not_of _ _ (equal x y v w h g (needed _ _ z t)))

  by_texts : (f : List ℕ → List ℕ → Outcome) → kind_if (kn.both_of is_text x y) kind.Text ≡ Ok z → st.then_strictly q (st.of_texts f v) ≡ Some (ev.and_then r (λ w. f (as_text v) (as_text w)))
  by_texts f t = then_same y r q _ _ e fit (λ w g. two_texts x y v w h g f (needed _ _ z t))

  by_and : kind_if (kn.both_of is_bool x y) kind.Bool ≡ Ok z → st.strict_second op.And v q ≡ Some (va.second op.And v r)
  by_and t =
      let b = both-true (is_bool x) (is_bool y) (needed _ _ z t) in
      let p = bool_value x v b.0 h in
      subst (λ u. st.strict_second op.And u q ≡ Some (va.second op.And u r)) (sym p.1) (and_same p.0 y r q b.1 e fit)

  by_or : kind_if (kn.both_of is_bool x y) kind.Bool ≡ Ok z → st.strict_second op.Or v q ≡ Some (va.second op.Or v r)
  by_or t =
      let b = both-true (is_bool x) (is_bool y) (needed _ _ z t) in
      let p = bool_value x v b.0 h in
      subst (λ u. st.strict_second op.Or u q ≡ Some (va.second op.Or u r)) (sym p.1) (or_same p.0 y r q b.1 e fit)

second_same : (o : Op) (x y z : ValueKind) (v : Value) (r : Outcome) (q : Strict) → kn.two_kind o x y ≡ Ok z → fits x v ≡ true → q ≡ Some r → IsFit y r → st.strict_second o v q ≡ Some (va.second o v r)
second_same op.Add x y z v r q t h e fit = by_ints x y z v r q h e fit _ t
second_same op.Sub x y z v r q t h e fit = by_ints x y z v r q h e fit _ t
second_same op.Mul x y z v r q t h e fit = by_ints x y z v r q h e fit _ t
second_same op.Div x y z v r q t h e fit = by_ints x y z v r q h e fit ev.divided t
second_same op.Rem x y z v r q t h e fit = by_ints x y z v r q h e fit ev.remainder t
second_same op.Mod x y z v r q t h e fit = by_ints x y z v r q h e fit ev.modulo t
second_same op.Min x y z v r q t h e fit = by_ints x y z v r q h e fit _ t
second_same op.Max x y z v r q t h e fit = by_ints x y z v r q h e fit _ t
second_same op.Join x y z v r q t h e fit = by_texts x y z v r q h e fit _ t
second_same op.Eq x y z v r q t h e fit = by_equal x y z v r q h e fit t
second_same op.Ne x y z v r q t h e fit = by_equal_not x y z v r q h e fit t
second_same op.Lt x y z v r q t h e fit = by_less x y z v r q h e fit t
second_same op.Le x y z v r q t h e fit = by_more_not x y z v r q h e fit t
second_same op.Gt x y z v r q t h e fit = by_more x y z v r q h e fit t
second_same op.Ge x y z v r q t h e fit = by_less_not x y z v r q h e fit t
second_same op.And x y z v r q t h e fit = by_and x y z v r q h e fit t
second_same op.Or x y z v r q t h e fit = by_or x y z v r q h e fit t

text_of_two : (x : ValueKind) (v : Value) → fits x v ≡ true → (is_int x ≡ true) ⊎ (is_bool x ≡ true) → st.strict_text v ≡ Some (ev.call_of word.Text v)
text_of_two x v h (inl i) =
    let p = int_value x v i h in
    subst (λ u. st.strict_text u ≡ Some (ev.call_of word.Text u)) (sym p.1) refl
text_of_two x v h (inr i) =
    let p = bool_value x v i h in
    subst (λ u. st.strict_text u ≡ Some (ev.call_of word.Text u)) (sym p.1) refl

text_of_three : (x : ValueKind) (v : Value) → fits x v ≡ true → ((is_int x || is_bool x) ≡ true) ⊎ (is_text x ≡ true) → st.strict_text v ≡ Some (ev.call_of word.Text v)
text_of_three x v h (inl i) = text_of_two x v h (or-true (is_int x) (is_bool x) i)
text_of_three x v h (inr i) =
    let p = text_value x v i h in
    subst (λ u. st.strict_text u ≡ Some (ev.call_of word.Text u)) (sym p.1) refl

text_same : (x : ValueKind) (v : Value) → fits x v ≡ true → (is_int x || is_bool x || is_text x) ≡ true → st.strict_text v ≡ Some (ev.call_of word.Text v)
text_same x v h o = text_of_three x v h (or-true (is_int x || is_bool x) (is_text x) o)

call_same : (w : Word) (x z : ValueKind) (v : Value) → kn.call_kind w x ≡ Ok z → fits x v ≡ true → st.strict_call w v ≡ Some (ev.call_of w v)
call_same word.Abs x z v t h = one_int x v h _ (needed _ _ z t)
call_same word.Len x z v t h = one_text x v h _ (needed _ _ z t)
call_same word.Int x z v t h = one_text x v h _ (needed _ _ z t)
call_same word.TryInt x z v t h = one_text x v h _ (needed _ _ z t)
call_same word.Text x z v t h = text_same x v h (needed _ _ z t)

-- ---- literals and names

literal_same : (v : Value) (z : ValueKind) → kn.literal_kind v ≡ Ok z → st.strict_literal v ≡ Some (Ok v)
literal_same (Int n) z e = refl
literal_same (BoolV b) z e = refl
literal_same (Text t) z e = refl
literal_same _ z e = absurd (cc)

name_same : (names : Kinds) (env : Names) (z : ValueKind) (n : List ℕ) → Agree names env → (o : Option ValueKind) → names n ≡ o → kn.known o ≡ Ok z → st.strict_name (env n) ≡ Some (va.bound (env n))
name_same names env z n g (Some x) p e =
    let b = g.values n x p in
    subst (λ o. st.strict_name o ≡ Some (va.bound o)) (sym b.1) refl
name_same names env z n g None p e = absurd (cc)

place_same : (env : Names) → PlaceIsBound env (place_name ∷ []) → st.strict_place (env place_name) ≡ Some (va.bound (env place_name))
place_same env b =
    let p = b.0 refl in
    subst (λ o. st.strict_place o ≡ Some (va.bound o)) (sym p.1) refl

-- ---- tuples

present : (y : ValueKind-F ValueKind) (z : Value-F Value) (v : Value) (r : Strict) → kn.is_maybe_at y ≡ false → fits_at (map-ValueKind ValueKind (Value → Bool) fits y) z v ≡ true → st.unless_nothing z r ≡ r
present (k.Maybe y) z v r m h = absurd (cc)
present _ val.Nothing v r m h = absurd (cc)
present _ _ v r m h = refl

fits_eq : (x : ValueKind) (v : Value) → fits x v ≡ fits_at (map-ValueKind ValueKind (Value → Bool) fits (out-ValueKind x)) (out-Value v) v
fits_eq x v = ap (λ y. fits y v) (sym (rolled x)) ∙ ap (λ m. m v) (fold-roll-ValueKind (Value → Bool) fits_step (out-ValueKind x))

-- what fits a kind that isn't Maybe isn't nothing
some_value : (x : ValueKind) (v : Value) (r : Strict) → is_maybe x ≡ false → fits x v ≡ true → st.unless_nothing (out-Value v) r ≡ r
some_value x v r m h = present (out-ValueKind x) (out-Value v) v r m (sym (fits_eq x v) ∙ h)

tuple_if : (b : Bool) (vs : List Value) → b ≡ true → ◌≡◌ {A = Strict} (if b then Some (Ok (Tuple vs)) else None) (Some (Ok (Tuple vs)))
tuple_if true vs e = refl
tuple_if false vs e = absurd (cc)

not_if : (b : Bool) (r : Kinded) (z : ValueKind) → (if b then Err Differs else r) ≡ Ok z → b ≡ false
not_if true r z e = absurd (cc)
not_if false r z e = refl

one_more : (vs : List Value) (ks : List ValueKind) (v : Value) (x : ValueKind) → length vs ≡ length ks → length (vs ++ v ∷ []) ≡ length (ks ++ x ∷ [])
one_more vs ks v x n = omega (arith, length-append vs (v ∷ []), length-append ks (x ∷ []))

-- ---- the expression

abbrev IsSame : Expr → Type 0
IsSame x = (names : Kinds) (env : Names) (z : ValueKind) → Agree names env → PlaceIsBound env (names_in x) → kind_of x names ≡ Ok z → strict_value_of x env ≡ Some (value_of x env)

abbrev Such : Type 0
Such = (x : Expr) × IsSame x

abbrev bare : Such → Expr
bare s = s.0

parts_same : (ss : List Such) (ks : List ValueKind) (vs : List Value) (names : Kinds) (env : Names) (z : ValueKind) → Agree names env → PlaceIsBound env (all_names (map names_in (map bare ss))) → length vs ≡ length ks → kn.part_kinds ks (map kind_of (map bare ss)) names ≡ Ok z → st.strict_parts vs (map strict_value_of (map bare ss)) env ≡ Some (va.part_values vs (map value_of (map bare ss)) env)
parts_same [] ks vs names env z g b n e = tuple_if (is_tuple_length (length vs)) vs (ap is_tuple_length n ∙ needed _ (kind.Tuple ks) z e)
parts_same (s ∷ ss) ks vs names env z g b n e =
    let p = then-ok _ _ z e in
    let here = front env (names_in s.0) (all_names (map names_in (map bare ss))) b in
    let more = back env (names_in s.0) (all_names (map names_in (map bare ss))) b in
    let m = not_if (is_maybe p.0) _ z p.2 in
    then_same p.0 _ _ _ _ (s.1 names env p.0 g here p.1) (sound s.0 names env p.0 g here p.1) (λ v f.
    some_value p.0 v _ m f
    ∙ parts_same ss (ks ++ p.0 ∷ []) (vs ++ v ∷ []) names env z g more (one_more vs ks v p.0 n) (bool_else _ _ z p.2))

other_same : (o : Option Such) (y z : ValueKind) (names : Kinds) (env : Names) → Agree names env → PlaceIsBound env (or_none (option_map names_in (option_map bare o))) → kn.other_kind y (option_map kind_of (option_map bare o)) names ≡ Ok z → st.strict_other (option_map strict_value_of (option_map bare o)) env ≡ Some (va.other_of (option_map value_of (option_map bare o)) env)
other_same None y z names env g b e = refl
other_same (Some s) y z names env g b e =
    let p = then-ok _ _ z e in
    s.1 names env p.0 g b p.1

choice_same : (c : Bool) (q p : Strict) (r s : Outcome) → q ≡ Some r → p ≡ Some s → (if c then q else p) ≡ Some (if c then r else s)
choice_same true q p r s e h = e
choice_same false q p r s e h = h

abbrev layer_names : Expr-F Such → List (List ℕ)
layer_names y = names_step (map-Expr Expr (List (List ℕ)) names_in (map-Expr Such Expr bare y))

abbrev layer_strict : Expr-F Such → StrictMeaning
layer_strict y = strict_step (map-Expr Expr StrictMeaning strict_value_of (map-Expr Such Expr bare y))

abbrev layer_value : Expr-F Such → Meaning
layer_value y = value_step (map-Expr Expr Meaning value_of (map-Expr Such Expr bare y))

if_same : (t s : Such) (o : Option Such) (names : Kinds) (env : Names) (z : ValueKind) → Agree names env → PlaceIsBound env (names_in t.0 ++ names_in s.0 ++ or_none (option_map names_in (option_map bare o))) → kind_step (e.If (kind_of t.0) (kind_of s.0) (option_map kind_of (option_map bare o))) names ≡ Ok z →
    strict_step (e.If (strict_value_of t.0) (strict_value_of s.0) (option_map strict_value_of (option_map bare o))) env ≡ Some (value_step (e.If (value_of t.0) (value_of s.0) (option_map value_of (option_map bare o))) env)
if_same t s o names env z g b h =
    let p = then-ok _ _ z h in
    let q = bool_then (is_bool p.0) _ z p.2 in
    let r = then-ok _ _ z q.1 in
    let both = front env (names_in t.0 ++ names_in s.0) (or_none (option_map names_in (option_map bare o))) b in
    let bo = back env (names_in t.0 ++ names_in s.0) (or_none (option_map names_in (option_map bare o))) b in
    let bt = front env (names_in t.0) (names_in s.0) both in
    let bs = back env (names_in t.0) (names_in s.0) both in
    then_same p.0 _ _ _ _ (t.1 names env p.0 g bt p.1) (sound t.0 names env p.0 g bt p.1) (λ v f.
    one_bool p.0 v f (λ c. if c then strict_value_of s.0 env else st.strict_other (option_map strict_value_of (option_map bare o)) env) q.0
    ∙ choice_same (as_bool v) _ _ _ _ (s.1 names env r.0 g bs r.1) (other_same o r.0 z names env g bo r.2))

layer_same : (y : Expr-F Such) (names : Kinds) (env : Names) (z : ValueKind) → Agree names env → PlaceIsBound env (layer_names y) → kind_step (map-Expr Expr Typing kind_of (map-Expr Such Expr bare y)) names ≡ Ok z → layer_strict y env ≡ Some (layer_value y env)
layer_same (e.Lit v) names env z g b h = literal_same v z h
layer_same (e.Name n) names env z g b h = name_same names env z n g (names n) refl h
layer_same e.Place names env z g b h = place_same env b
layer_same (e.Neg s) names env z g b h =
    let p = then-ok _ _ z h in
    then_same p.0 _ _ _ _ (s.1 names env p.0 g b p.1) (sound s.0 names env p.0 g b p.1) (λ v f. one_int p.0 v f _ (needed _ _ z p.2))
layer_same (e.Not s) names env z g b h =
    let p = then-ok _ _ z h in
    then_same p.0 _ _ _ _ (s.1 names env p.0 g b p.1) (sound s.0 names env p.0 g b p.1) (λ v f. one_bool p.0 v f _ (needed _ _ z p.2))
layer_same (e.Two o s t) names env z g b h =
    let p = then-ok _ _ z h in
    let q = then-ok _ _ z p.2 in
    let bs = front env (names_in s.0) (names_in t.0) b in
    let bt = back env (names_in s.0) (names_in t.0) b in
    then_same p.0 _ _ _ _ (s.1 names env p.0 g bs p.1) (sound s.0 names env p.0 g bs p.1) (λ v f.
    second_same o p.0 q.0 z v _ _ q.2 f (t.1 names env q.0 g bt q.1) (sound t.0 names env q.0 g bt q.1))
layer_same (e.Call w s) names env z g b h =
    let p = then-ok _ _ z h in
    then_same p.0 _ _ _ _ (s.1 names env p.0 g b p.1) (sound s.0 names env p.0 g b p.1) (λ v f. call_same w p.0 z v p.2 f)
layer_same (e.If t s None) names env z g b h = if_same t s None names env z g b h
layer_same (e.If t s (Some o)) names env z g b h = if_same t s (Some o) names env z g b h
layer_same (e.Tuple ss) names env z g b h = parts_same ss [] [] names env z g b refl h

pub no_default : (x : Expr) → IsSame x
no_default = ind-Expr IsSame (λ x y is names env z g b h.
    let n = fold-roll-Expr (List (List ℕ)) names_step x in
    let t = ap (λ f. f names) (fold-roll-Expr Typing kind_step x) in
    let v = ap (λ f. f env) (fold-roll-Expr Meaning value_step x) in
    let s = ap (λ f. f env) (fold-roll-Expr StrictMeaning strict_step x) in
    let layer = subst (λ w. PlaceIsBound env (names_step (map-Expr Expr (List (List ℕ)) names_in w)) → kind_step (map-Expr Expr Typing kind_of w) names ≡ Ok z → strict_step (map-Expr Expr StrictMeaning strict_value_of w) env ≡ Some (value_step (map-Expr Expr Meaning value_of w) env)) is (layer_same y names env z g) in
    s ∙ layer (subst (PlaceIsBound env) n b) (sym t ∙ h) ∙ ap (λ r. Some r) (sym v))

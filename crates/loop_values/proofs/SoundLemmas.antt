-- An expression with a kind has a value that fits it, or a fault.
use Rattle.std.proofs.Common.{◌≡◌, ℕ, Bool, true, false, List, [], ◌∷◌, ◌++◌, map, Option, Some, None, Ok, Err, refl, ap, sym, ◌∙◌, subst, rules}
use Rattle.std.specs.Prelude.{◌&&◌, if◌then◌else◌, ℤ, option_map}
use Rattle.loop_data.specs.declared.value.Value.{Value, out-Value}
use Rattle.loop_data.specs.declared.value.Value.TheOpen.{Value-F, Value-F as val}
use Rattle.loop_data.specs.declared.value.ValueKind.TheOpen.{ValueKind-F, ValueKind-F as k}
use Rattle.loop_data.specs.declared.expr.Op.{Op}
use Rattle.loop_data.specs.declared.expr.Op.TheVariants as op
use Rattle.loop_values.specs.declared.stop.TypeStop.TheVariants.{Differs}
use Rattle.loop_data.specs.declared.expr.Expr.{Expr, fold-roll-Expr, ind-Expr, map-Expr}
use Rattle.loop_data.specs.declared.expr.Expr.TheOpen.{Expr-F, Expr-F as e}
use Rattle.loop_data.specs.declared.expr.Word.{Word}
use Rattle.loop_data.specs.declared.expr.Word.TheVariants as word
use Rattle.loop_data.specs.declared.value.Value.TheVariants.{Int, Bool as BoolV, Text, Nothing, Tuple}
use Rattle.loop_data.specs.declared.value.Value.{the_lemmas as value_lemmas}
use Rattle.loop_data.specs.declared.value.ValueKind.{ValueKind, out-ValueKind, roll-ValueKind, the_lemmas as kind_lemmas}
use Rattle.loop_data.specs.declared.value.ValueKind.TheVariants as kind
use Rattle.loop_data.specs.ValueParts.{as_int, as_bool}
use Rattle.loop_values.specs.Operations as ev
use Rattle.loop_values.specs.Bindings.{Names, place_name}
use Rattle.loop_values.specs.Operations.{Outcome}
use Rattle.loop_values.specs.Values as va
use Rattle.loop_values.specs.Values.{Meaning, value_of, value_step}
use Rattle.loop_values.specs.Kinds as kn
use Rattle.loop_values.specs.Kinds.{Kinds, Kinded, Typing, kind_of, kind_step, kind_if, is_int, is_bool, is_text, is_maybe}
use Rattle.loop_values.proofs.SameLemmas.{same_kind-sound}
use Rattle.loop_values.specs.NamesIn.{names_in, names_step, all_names, or_none, PlaceIsBound}
use Rattle.loop_values.specs.Fits.{fits, fits_at, all_fit, Agree, IsFit}

abbrev int_value : ℤ → Outcome
int_value n = Ok (Int n)

pub maybe_eq : (x : ValueKind) (v : Value) → fits (kind.Maybe x) v ≡ fits_at (k.Maybe (fits x)) (out-Value v) v
maybe_eq x v = search (rules, value_lemmas, kind_lemmas)

pub fits-Int : (n : ℤ) → fits kind.Int (Int n) ≡ true
fits-Int n = search (rules, value_lemmas, kind_lemmas)

pub fits-Bool : (b : Bool) → fits kind.Bool (BoolV b) ≡ true
fits-Bool b = search (rules, value_lemmas, kind_lemmas)

pub fits-Text : (t : List ℕ) → fits kind.Text (Text t) ≡ true
fits-Text t = search (rules, value_lemmas, kind_lemmas)

pub fits-Nothing : (x : ValueKind) → fits (kind.Maybe x) Nothing ≡ true
fits-Nothing x = search (rules, value_lemmas, kind_lemmas)

pub fits-Tuple : (ks : List ValueKind) (vs : List Value) → fits (kind.Tuple ks) (Tuple vs) ≡ all_fit (map fits ks) vs
fits-Tuple ks vs = search (rules, value_lemmas, kind_lemmas)

pub kind_if-ok : (b : Bool) (x y : ValueKind) → kind_if b x ≡ Ok y → (b ≡ true) × (x ≡ y)
kind_if-ok true x y e = (refl, cc)
kind_if-ok false x y e = absurd (cc)

pub then-ok : (r : Kinded) (f : ValueKind → Kinded) (y : ValueKind) → kn.and_then r f ≡ Ok y → (x : ValueKind) × (r ≡ Ok x) × (f x ≡ Ok y)
then-ok (Ok x) f y e = (x, refl, e)
then-ok (Err s) f y e = absurd (cc)

pub ok-same : (v w : Value) → ◌≡◌ {A = Outcome} (Ok v) (Ok w) → v ≡ w
ok-same v w e = cc

pub value-fits : (x : ValueKind) (v : Value) → fits x v ≡ true → IsFit x (Ok v)
value-fits x v h = record { fit = λ w e. subst (λ u. fits x u ≡ true) (ok-same v w e) h }

pub fault-fits : (x : ValueKind) (s : _) → IsFit x (Err s)
fault-fits x s = record { fit = λ w e. absurd (cc) }

then-fits : (x y : ValueKind) (r : Outcome) (g : Value → Outcome) → IsFit x r → ((v : Value) → fits x v ≡ true → IsFit y (g v)) → IsFit y (ev.and_then r g)
then-fits x y (Ok v) g h k = k v (h.fit v refl)
then-fits x y (Err s) g h k = fault-fits y s

if-fits : (x : ValueKind) (b : Bool) (r s : Outcome) → IsFit x r → IsFit x s → IsFit x (if b then r else s)
if-fits x true r s h k = h
if-fits x false r s h k = k

pub is_int-is : (x : ValueKind) → is_int x ≡ true → x ≡ kind.Int
is_int-is kind.Int e = refl
is_int-is _ e = absurd (cc)

pub is_bool-is : (x : ValueKind) → is_bool x ≡ true → x ≡ kind.Bool
is_bool-is kind.Bool e = refl
is_bool-is _ e = absurd (cc)

pub is_text-is : (x : ValueKind) → is_text x ≡ true → x ≡ kind.Text
is_text-is kind.Text e = refl
is_text-is _ e = absurd (cc)

-- ---- the operations

is_int_value : (x : ValueKind) (n : ℤ) (b : Bool) → kind_if b kind.Int ≡ Ok x → IsFit x (int_value n)
is_int_value x n b e = subst (λ y. IsFit y (int_value n)) (kind_if-ok b kind.Int x e).1 (value-fits _ _ (fits-Int n))

is_bool_value : (x : ValueKind) (c b : Bool) → kind_if b kind.Bool ≡ Ok x → IsFit x (ev.truth c)
is_bool_value x c b e = subst (λ y. IsFit y (ev.truth c)) (kind_if-ok b kind.Bool x e).1 (value-fits _ _ (fits-Bool c))

is_text_value : (x : ValueKind) (t : List ℕ) (b : Bool) → kind_if b kind.Text ≡ Ok x → IsFit x (Ok (Text t))
is_text_value x t b e = subst (λ y. IsFit y (Ok (Text t))) (kind_if-ok b kind.Text x e).1 (value-fits _ _ (fits-Text t))

pub both-true : (a b : Bool) → (a && b) ≡ true → (a ≡ true) × (b ≡ true)
both-true true true e = (refl, refl)
both-true true false e = absurd (cc)
both-true false b e = absurd (cc)

divided-fits : (x : ValueKind) (a d : ℤ) (b : Bool) → kind_if b kind.Int ≡ Ok x → IsFit x (ev.divided a d)
divided-fits x a d b e = search (if-fits, fault-fits, is_int_value, e)

remainder-fits : (x : ValueKind) (a d : ℤ) (b : Bool) → kind_if b kind.Int ≡ Ok x → IsFit x (ev.remainder a d)
remainder-fits x a d b e = search (if-fits, fault-fits, is_int_value, e)

modulo-fits : (x : ValueKind) (a d : ℤ) (b : Bool) → kind_if b kind.Int ≡ Ok x → IsFit x (ev.modulo a d)
modulo-fits x a d b e = search (if-fits, fault-fits, is_int_value, e)

joined_texts-fits : (x : ValueKind) (t : List ℕ) (b : Bool) → kind_if b kind.Text ≡ Ok x → IsFit x (ev.within_limit t)
joined_texts-fits x t b e = search (if-fits, fault-fits, is_text_value, e)

two-fits : (o : Op) (x y z : ValueKind) (v w : Value) → kn.two_kind o x y ≡ Ok z → IsFit z (ev.two_of o v w)
two-fits op.Add x y z v w e = is_int_value z _ _ e
two-fits op.Sub x y z v w e = is_int_value z _ _ e
two-fits op.Mul x y z v w e = is_int_value z _ _ e
two-fits op.Div x y z v w e = divided-fits z (as_int v) (as_int w) _ e
two-fits op.Rem x y z v w e = remainder-fits z (as_int v) (as_int w) _ e
two-fits op.Mod x y z v w e = modulo-fits z (as_int v) (as_int w) _ e
two-fits op.Min x y z v w e = is_int_value z _ _ e
two-fits op.Max x y z v w e = is_int_value z _ _ e
two-fits op.Join x y z v w e = joined_texts-fits z _ _ e
two-fits op.Eq x y z v w e = is_bool_value z _ _ e
two-fits op.Ne x y z v w e = is_bool_value z _ _ e
two-fits op.Lt x y z v w e = is_bool_value z _ _ e
two-fits op.Le x y z v w e = is_bool_value z _ _ e
two-fits op.Gt x y z v w e = is_bool_value z _ _ e
two-fits op.Ge x y z v w e = is_bool_value z _ _ e
two-fits op.And x y z v w e = is_bool_value z _ _ e
two-fits op.Or x y z v w e = is_bool_value z _ _ e

number_or_fault-fits : (x : ValueKind) (n : Option ℤ) (b : Bool) → kind_if b kind.Int ≡ Ok x → IsFit x (ev.number_or_fault n)
number_or_fault-fits x (Some n) b e = is_int_value x n b e
number_or_fault-fits x None b e = fault-fits x _

maybe_layer : (f : Value → Bool) (z : Value-F Value) (v : Value) → f v ≡ true → fits_at (k.Maybe f) z v ≡ true
maybe_layer f val.Nothing v e = refl
maybe_layer f _ v e = e

pub fits-Maybe : (x : ValueKind) (v : Value) → fits x v ≡ true → fits (kind.Maybe x) v ≡ true
fits-Maybe x v e = maybe_eq x v ∙ maybe_layer (fits x) (out-Value v) v e

number_or_nothing-fits : (x : ValueKind) (n : Option ℤ) (b : Bool) → kind_if b (kind.Maybe kind.Int) ≡ Ok x → IsFit x (ev.number_or_nothing n)
number_or_nothing-fits x (Some n) b e = subst (λ y. IsFit y (Ok (Int n))) (kind_if-ok b _ x e).1 (value-fits _ _ (fits-Maybe kind.Int (Int n) (fits-Int n)))
number_or_nothing-fits x None b e = subst (λ y. IsFit y (Ok Nothing)) (kind_if-ok b _ x e).1 (value-fits _ _ (fits-Nothing kind.Int))

call-fits : (w : Word) (x z : ValueKind) (v : Value) → kn.call_kind w x ≡ Ok z → IsFit z (ev.call_of w v)
call-fits word.Abs x z v e = is_int_value z _ _ e
call-fits word.Len x z v e = is_int_value z _ _ e
call-fits word.Int x z v e = number_or_fault-fits z _ _ e
call-fits word.TryInt x z v e = number_or_nothing-fits z _ _ e
call-fits word.Text x z v e = is_text_value z _ _ e

pub ok_kind : (x y : ValueKind) → ◌≡◌ {A = Kinded} (Ok x) (Ok y) → x ≡ y
ok_kind x y e = cc

decided-fits : (o : Op) (x y z : ValueKind) (v : Value) (b : Bool) → ev.decides o v ≡ b → kn.two_kind o x y ≡ Ok z → (r : Outcome) → IsFit z r → IsFit z (if b then ev.truth (as_bool v) else r)
decided-fits o x y z v false d e r h = h
decided-fits op.And x y z v true d e r h = is_bool_value z _ _ e
decided-fits op.Or x y z v true d e r h = is_bool_value z _ _ e
decided-fits _ x y z v true d e r h = absurd (cc)

second-fits : (o : Op) (x y z : ValueKind) (v : Value) (r : Outcome) → kn.two_kind o x y ≡ Ok z → IsFit y r → IsFit z (va.second o v r)
second-fits o x y z v r e h = decided-fits o x y z v (ev.decides o v) refl e _ (then-fits y z r _ h (λ w f. two-fits o x y z v w e))

literal-fit : (v : Value) (z : ValueKind) → kn.literal_kind v ≡ Ok z → IsFit z (Ok v)
literal-fit (Int n) z e = subst (λ y. IsFit y (Ok (Int n))) (ok_kind kind.Int z e) (value-fits _ _ (fits-Int n))
literal-fit (BoolV b) z e = subst (λ y. IsFit y (Ok (BoolV b))) (ok_kind kind.Bool z e) (value-fits _ _ (fits-Bool b))
literal-fit (Text t) z e = subst (λ y. IsFit y (Ok (Text t))) (ok_kind kind.Text z e) (value-fits _ _ (fits-Text t))
literal-fit _ z e = absurd (cc)

-- ---- the expression

-- an expression's kinds and values, wherever names and values agree
abbrev pub IsSound : Expr → Type 0
IsSound e = (names : Kinds) (env : Names) (z : ValueKind) → Agree names env → PlaceIsBound env (names_in e) → kind_of e names ≡ Ok z → IsFit z (value_of e env)

abbrev Such : Type 0
Such = (e : Expr) × IsSound e

abbrev bare : Such → Expr
bare s = s.0

at_kind : (x z : ValueKind) (v : Value) → ◌≡◌ {A = Kinded} (Ok x) (Ok z) → fits x v ≡ true → IsFit z (Ok v)
at_kind x z v e h = subst (λ y. IsFit y (Ok v)) (ok_kind x z e) (value-fits x v h)

pub bool_then : (b : Bool) (r : Kinded) (z : ValueKind) → (if b then r else Err Differs) ≡ Ok z → (b ≡ true) × (r ≡ Ok z)
bool_then true r z e = (refl, e)
bool_then false r z e = absurd (cc)

pub bool_else : (b : Bool) (r : Kinded) (z : ValueKind) → (if b then Err Differs else r) ≡ Ok z → r ≡ Ok z
bool_else true r z e = absurd (cc)
bool_else false r z e = e

bound_at : (z : ValueKind) (names : Kinds) (env : Names) (q : List ℕ) → Agree names env → (o : Option ValueKind) → names q ≡ o → kn.known o ≡ Ok z → IsFit z (va.bound (env q))
bound_at z names env q g (Some x) p e =
    let h = g.values q x p in subst (λ r. IsFit z (va.bound r)) (sym h.1) (at_kind x z h.0 e h.2)
bound_at z names env q g None p e = absurd (cc)

place_at : (z : ValueKind) (env : Names) → PlaceIsBound env (place_name ∷ []) → ◌≡◌ {A = Kinded} (Ok kind.Int) (Ok z) → IsFit z (va.bound (env place_name))
place_at z env b e =
    let p = b.0 refl in
    subst (λ r. IsFit z (va.bound r)) (sym p.1) (at_kind kind.Int z (Int p.0) e (fits-Int p.0))

pub front : (env : Names) (xs ys : List (List ℕ)) → PlaceIsBound env (xs ++ ys) → PlaceIsBound env xs
front env [] ys h = tt
front env (x ∷ xs) ys h = (h.0, front env xs ys h.1)

pub back : (env : Names) (xs ys : List (List ℕ)) → PlaceIsBound env (xs ++ ys) → PlaceIsBound env ys
back env [] ys h = h
back env (x ∷ xs) ys h = back env xs ys h.1

maybe_if : (b : Bool) (y : ValueKind) (v : Value) → fits y v ≡ true → fits (if b then y else kind.Maybe y) v ≡ true
maybe_if true y v e = e
maybe_if false y v e = fits-Maybe y v e

maybe_of-fits : (y : ValueKind) (v : Value) → fits y v ≡ true → fits (kn.maybe_of y) v ≡ true
maybe_of-fits y v e = maybe_if (is_maybe y) y v e

pub maybe_at : (z : ValueKind-F ValueKind) → kn.is_maybe_at z ≡ true → (x : ValueKind) × (z ≡ k.Maybe x)
maybe_at (k.Maybe x) e = (x, refl)
maybe_at _ e = absurd (cc)

pub rolled : (b : ValueKind) → roll-ValueKind (out-ValueKind b) ≡ b
rolled b = search (rules, kind_lemmas)

nothing_if : (b : Bool) (y : ValueKind) → is_maybe y ≡ b → fits (if b then y else kind.Maybe y) Nothing ≡ true
nothing_if true y e =
    let h = maybe_at (out-ValueKind y) e in
    let same : kind.Maybe h.0 ≡ y = sym (kind.rolls-Maybe h.0) ∙ ap roll-ValueKind (sym h.1) ∙ rolled y in
    subst (λ x. fits x Nothing ≡ true) same (fits-Nothing h.0)
nothing_if false y e = fits-Nothing y

pub append_fit : (ks : List ValueKind) (vs : List Value) (x : ValueKind) (v : Value) → all_fit (map fits ks) vs ≡ true → fits x v ≡ true → all_fit (map fits (ks ++ x ∷ [])) (vs ++ v ∷ []) ≡ true
append_fit [] [] x v h e = ap (λ b. b && true) e
append_fit [] (w ∷ vs) x v h e = absurd (cc)
append_fit (y ∷ ks) [] x v h e = absurd (cc)
append_fit (y ∷ ks) (w ∷ vs) x v h e =
    let p = both-true _ _ h in
    ap (λ b. b && all_fit (map fits (ks ++ x ∷ [])) (vs ++ v ∷ [])) p.0 ∙ append_fit ks vs x v p.1 e

parts-fit : (ss : List Such) (ks : List ValueKind) (vs : List Value) (names : Kinds) (env : Names) (z : ValueKind) → Agree names env → PlaceIsBound env (all_names (map names_in (map bare ss))) → all_fit (map fits ks) vs ≡ true → kn.part_kinds ks (map kind_of (map bare ss)) names ≡ Ok z → IsFit z (va.part_values vs (map value_of (map bare ss)) env)
parts-fit [] ks vs names env z g b h e =
    let p = kind_if-ok _ (kind.Tuple ks) z e in
    subst (λ y. IsFit y (Ok (Tuple vs))) p.1 (value-fits _ _ (fits-Tuple ks vs ∙ h))
parts-fit (s ∷ ss) ks vs names env z g b h e =
    let p = then-ok _ _ z e in
    let more = back env (names_in s.0) (all_names (map names_in (map bare ss))) b in
    then-fits p.0 z _ _ (s.1 names env p.0 g (front env (names_in s.0) _ b) p.1) (λ v f. parts-fit ss (ks ++ p.0 ∷ []) (vs ++ v ∷ []) names env z g more (append_fit ks vs p.0 v h f) (bool_else _ _ z p.2))

other-fit : (o : Option Such) (y z : ValueKind) (names : Kinds) (env : Names) → Agree names env → PlaceIsBound env (or_none (option_map names_in (option_map bare o))) → kn.other_kind y (option_map kind_of (option_map bare o)) names ≡ Ok z → IsFit z (va.other_of (option_map value_of (option_map bare o)) env)
other-fit None y z names env g b e = at_kind (kn.maybe_of y) z Nothing e (nothing_if (is_maybe y) y refl)
other-fit (Some s) y z names env g b e =
    let p = then-ok _ _ z e in
    let q = kind_if-ok _ y z p.2 in
    subst (λ x. IsFit x (value_of s.0 env)) (sym (same_kind-sound y p.0 q.0) ∙ q.1) (s.1 names env p.0 g b p.1)

yes-fit : (o : Option Such) (y z : ValueKind) (names : Kinds) (r : Outcome) → kn.other_kind y (option_map kind_of (option_map bare o)) names ≡ Ok z → IsFit y r → IsFit z r
yes-fit None y z names (Ok v) e h = at_kind (kn.maybe_of y) z v e (maybe_of-fits y v (h.fit v refl))
yes-fit None y z names (Err s) e h = fault-fits z s
yes-fit (Some s) y z names r e h =
    let p = then-ok (kind_of s.0 names) (λ x. kind_if (kn.same_kind y x) y) z e in
    subst (λ x. IsFit x r) (kind_if-ok (kn.same_kind y p.0) y z p.2).1 h

abbrev layer_names : Expr-F Such → List (List ℕ)
layer_names y = names_step (map-Expr Expr (List (List ℕ)) names_in (map-Expr Such Expr bare y))

layer-fit : (y : Expr-F Such) (names : Kinds) (env : Names) (z : ValueKind) → Agree names env → PlaceIsBound env (layer_names y) → kind_step (map-Expr Expr Typing kind_of (map-Expr Such Expr bare y)) names ≡ Ok z → IsFit z (value_step (map-Expr Expr Meaning value_of (map-Expr Such Expr bare y)) env)
layer-fit (e.Lit v) names env z g b h = literal-fit v z h
layer-fit (e.Name n) names env z g b h = bound_at z names env n g (names n) refl h
layer-fit e.Place names env z g b h = place_at z env b h
layer-fit (e.Neg s) names env z g b h =
    let p = then-ok _ _ z h in then-fits p.0 z _ _ (s.1 names env p.0 g b p.1) (λ v f. is_int_value z _ _ p.2)
layer-fit (e.Not s) names env z g b h =
    let p = then-ok _ _ z h in then-fits p.0 z _ _ (s.1 names env p.0 g b p.1) (λ v f. is_bool_value z _ _ p.2)
layer-fit (e.Two o s t) names env z g b h =
    let p = then-ok _ _ z h in
    let q = then-ok _ _ z p.2 in
    let bs = front env (names_in s.0) (names_in t.0) b in
    let bt = back env (names_in s.0) (names_in t.0) b in
    then-fits p.0 z _ _ (s.1 names env p.0 g bs p.1) (λ v f. second-fits o p.0 q.0 z v (value_of t.0 env) q.2 (t.1 names env q.0 g bt q.1))
layer-fit (e.Call w s) names env z g b h =
    let p = then-ok _ _ z h in then-fits p.0 z _ _ (s.1 names env p.0 g b p.1) (λ v f. call-fits w p.0 z v p.2)
layer-fit (e.If t s None) names env z g b h =
    let p = then-ok _ _ z h in
    let q = bool_then _ _ z p.2 in
    let r = then-ok _ _ z q.1 in
    let bb = front env (names_in t.0 ++ names_in s.0) [] b in
    let bt = front env (names_in t.0) (names_in s.0) bb in
    let bs = back env (names_in t.0) (names_in s.0) bb in
    then-fits p.0 z _ _ (t.1 names env p.0 g bt p.1) (λ v f. if-fits z (as_bool v) _ _ (yes-fit None r.0 z names (value_of s.0 env) r.2 (s.1 names env r.0 g bs r.1)) (other-fit None r.0 z names env g tt r.2))
layer-fit (e.If t s (Some o)) names env z g b h =
    let p = then-ok _ _ z h in
    let q = bool_then _ _ z p.2 in
    let r = then-ok _ _ z q.1 in
    let bb = front env (names_in t.0 ++ names_in s.0) (names_in o.0) b in
    let bt = front env (names_in t.0) (names_in s.0) bb in
    let bs = back env (names_in t.0) (names_in s.0) bb in
    let bo = back env (names_in t.0 ++ names_in s.0) (names_in o.0) b in
    then-fits p.0 z _ _ (t.1 names env p.0 g bt p.1) (λ v f. if-fits z (as_bool v) _ _ (yes-fit (Some o) r.0 z names (value_of s.0 env) r.2 (s.1 names env r.0 g bs r.1)) (other-fit (Some o) r.0 z names env g bo r.2))
layer-fit (e.Tuple ss) names env z g b h = parts-fit ss [] [] names env z g b refl h

pub sound : (e : Expr) → IsSound e
sound = ind-Expr IsSound (λ x y is names env z g b h.
    let n = fold-roll-Expr (List (List ℕ)) names_step x in
    let t = ap (λ f. f names) (fold-roll-Expr Typing kind_step x) in
    let v = ap (λ f. f env) (fold-roll-Expr Meaning value_step x) in
    let layer = subst (λ w. PlaceIsBound env (names_step (map-Expr Expr (List (List ℕ)) names_in w)) → kind_step (map-Expr Expr Typing kind_of w) names ≡ Ok z → IsFit z (value_step (map-Expr Expr Meaning value_of w) env)) is (layer-fit y names env z g) in
    subst (λ r. IsFit z r) (sym v) (layer (subst (PlaceIsBound env) n b) (sym t ∙ h)))

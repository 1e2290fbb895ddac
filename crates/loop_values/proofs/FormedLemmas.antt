-- A kind that is given is well formed, where the kinds of names are.
use Rattle.std.proofs.Common.{◌≡◌, Bool, true, false, List, [], ◌∷◌, ◌++◌, length, map, Option, Some, None, Ok, Err, refl, ap, sym, ◌∙◌, subst, rules}
use Rattle.std.specs.Prelude.{◌&&◌, if◌then◌else◌, option_map}
use Rattle.std.specs.List.{list_all}
use Rattle.loop_data.specs.declared.value.Value.{Value}
use Rattle.loop_data.specs.declared.value.Value.TheVariants.{Int, Bool as BoolV, Text}
use Rattle.loop_data.specs.declared.value.ValueKind.{ValueKind, the_lemmas as kind_lemmas}
use Rattle.loop_data.specs.declared.value.ValueKind.TheOpen.{ValueKind-F as k}
use Rattle.loop_data.specs.declared.value.ValueKind.TheVariants as kind
use Rattle.loop_data.specs.declared.expr.Op.{Op}
use Rattle.loop_data.specs.declared.expr.Op.TheVariants as op
use Rattle.loop_data.specs.declared.expr.Word.{Word}
use Rattle.loop_data.specs.declared.expr.Word.TheVariants as word
use Rattle.loop_data.specs.declared.expr.Expr.{Expr, fold-roll-Expr, ind-Expr, map-Expr}
use Rattle.loop_data.specs.declared.expr.Expr.TheOpen.{Expr-F, Expr-F as e}
use Rattle.loop_values.specs.declared.stop.TypeStop.TheVariants.{Differs}
use Rattle.loop_values.specs.Kinds as kn
use Rattle.loop_values.specs.Kinds.{Kinds, Kinded, Typing, AreWellFormed, inside_maybe_at, is_maybe, is_plain_kind, is_tuple_length, is_well_formed, kind_if, kind_of, kind_step, plain_kind_step}
use Rattle.loop_values.proofs.PlainLemmas.{formed_plain, length_map}
use Rattle.loop_values.proofs.SoundLemmas.{ok_kind}

formed-Int : is_well_formed kind.Int ≡ true
formed-Int = search (rules, kind_lemmas)

formed-Bool : is_well_formed kind.Bool ≡ true
formed-Bool = search (rules, kind_lemmas)

formed-Text : is_well_formed kind.Text ≡ true
formed-Text = search (rules, kind_lemmas)

maybe_formed : (x : ValueKind) → is_well_formed (kind.Maybe x) ≡ is_plain_kind x
maybe_formed x = search (rules, kind_lemmas)

plain-Int : is_plain_kind kind.Int ≡ true
plain-Int = search (rules, kind_lemmas)

plain-Tuple : (ks : List ValueKind) → is_plain_kind (kind.Tuple ks) ≡ plain_kind_step (k.Tuple (map is_plain_kind ks))
plain-Tuple ks = search (rules, kind_lemmas)

formed-Tuple : (ks : List ValueKind) → is_well_formed (kind.Tuple ks) ≡ is_plain_kind (kind.Tuple ks)
formed-Tuple ks = search (rules, kind_lemmas)

-- each kind that is given is well formed
record Formed (r : Kinded) : Type 0 where
  pub formed : (x : ValueKind) → r ≡ Ok x → is_well_formed x ≡ true

formed_ok : (x : ValueKind) → is_well_formed x ≡ true → Formed (Ok x)
formed_ok x h = record { formed = λ y e. subst (λ z. is_well_formed z ≡ true) (ok_kind x y e) h }

formed_err : (s : _) → Formed (Err s)
formed_err s = record { formed = λ y e. absurd (cc) }

formed_if : (b : Bool) (x : ValueKind) → is_well_formed x ≡ true → Formed (kind_if b x)
formed_if true x h = formed_ok x h
formed_if false x h = formed_err _

formed_choice : (b : Bool) (r s : Kinded) → Formed r → Formed s → Formed (if b then r else s)
formed_choice true r s h k = h
formed_choice false r s h k = k

formed_then : (r : Kinded) (f : ValueKind → Kinded) → Formed r → ((x : ValueKind) → is_well_formed x ≡ true → Formed (f x)) → Formed (kn.and_then r f)
formed_then (Ok x) f h k = k x (h.formed x refl)
formed_then (Err s) f h k = formed_err s

literal_formed : (v : Value) → Formed (kn.literal_kind v)
literal_formed (Int n) = formed_ok _ formed-Int
literal_formed (BoolV b) = formed_ok _ formed-Bool
literal_formed (Text t) = formed_ok _ formed-Text
literal_formed _ = formed_err _

known_formed : (o : Option ValueKind) → ((x : ValueKind) → o ≡ Some x → is_well_formed x ≡ true) → Formed (kn.known o)
known_formed (Some x) h = formed_ok x (h x refl)
known_formed None h = formed_err _

two_formed : (o : Op) (x y : ValueKind) → Formed (kn.two_kind o x y)
two_formed op.Join x y = formed_if _ _ formed-Text
two_formed op.Eq x y = formed_if _ _ formed-Bool
two_formed op.Ne x y = formed_if _ _ formed-Bool
two_formed op.Lt x y = formed_if _ _ formed-Bool
two_formed op.Le x y = formed_if _ _ formed-Bool
two_formed op.Gt x y = formed_if _ _ formed-Bool
two_formed op.Ge x y = formed_if _ _ formed-Bool
two_formed op.And x y = formed_if _ _ formed-Bool
two_formed op.Or x y = formed_if _ _ formed-Bool
two_formed _ x y = formed_if _ _ formed-Int

call_formed : (w : Word) (x : ValueKind) → Formed (kn.call_kind w x)
call_formed word.Abs x = formed_if _ _ formed-Int
call_formed word.Len x = formed_if _ _ formed-Int
call_formed word.Int x = formed_if _ _ formed-Int
call_formed word.TryInt x = formed_if _ _ (maybe_formed kind.Int ∙ plain-Int)
call_formed word.Text x = formed_if _ _ formed-Text

maybe_if : (b : Bool) (x : ValueKind) → is_maybe x ≡ b → is_well_formed x ≡ true → is_well_formed (if b then x else kind.Maybe x) ≡ true
maybe_if true x m w = w
maybe_if false x m w = maybe_formed x ∙ formed_plain x w m

both-hold : (a b : Bool) → a ≡ true → b ≡ true → (a && b) ≡ true
both-hold true b e h = h
both-hold false b e h = e

tuple_if : (b : Bool) (ks : List ValueKind) → is_tuple_length (length ks) ≡ b → list_all (λ p. p) (map is_plain_kind ks) ≡ true → Formed (kind_if b (kind.Tuple ks))
tuple_if true ks n a =
    let n2 : is_tuple_length (length (map is_plain_kind ks)) ≡ true = ap is_tuple_length (length_map is_plain_kind ks) ∙ n in
    formed_ok _ (formed-Tuple ks ∙ plain-Tuple ks ∙ both-hold (is_tuple_length (length (map is_plain_kind ks))) _ n2 a)
tuple_if false ks n a = formed_err _

one_before : (b : Bool) (more less : Bool) → (less ≡ true → more ≡ true) → (b && less) ≡ true → (b && more) ≡ true
one_before true more less h a = h a
one_before false more less h a = a

one_more : (ks : List ValueKind) (x : ValueKind) → list_all (λ p. p) (map is_plain_kind ks) ≡ true → is_plain_kind x ≡ true → list_all (λ p. p) (map is_plain_kind (ks ++ x ∷ [])) ≡ true
one_more [] x a h = both-hold (is_plain_kind x) true h refl
one_more (y ∷ ks) x a h = one_before (is_plain_kind y) _ _ (λ r. one_more ks x r h) a

abbrev IsFormed : Expr → Type 0
IsFormed x = (names : Kinds) → AreWellFormed names → Formed (kind_of x names)

abbrev Such : Type 0
Such = (x : Expr) × IsFormed x

abbrev bare : Such → Expr
bare s = s.0

part_formed : (b : Bool) (x : ValueKind) (r : Kinded) → is_maybe x ≡ b → (is_maybe x ≡ false → Formed r) → Formed (if b then Err Differs else r)
part_formed true x r m h = formed_err _
part_formed false x r m h = h m

parts_formed : (ss : List Such) (done : List ValueKind) (names : Kinds) → AreWellFormed names → list_all (λ p. p) (map is_plain_kind done) ≡ true → Formed (kn.part_kinds done (map kind_of (map bare ss)) names)
parts_formed [] done names w a = tuple_if _ done refl a
parts_formed (s ∷ ss) done names w a =
    formed_then _ _ (s.1 names w) (λ x f. part_formed (is_maybe x) x _ refl (λ m. parts_formed ss (done ++ x ∷ []) names w (one_more done x a (formed_plain x f m))))

other_formed : (o : Option Such) (x : ValueKind) (names : Kinds) → AreWellFormed names → is_well_formed x ≡ true → Formed (kn.other_kind x (option_map kind_of (option_map bare o)) names)
other_formed (Some s) x names w h = formed_then _ _ (s.1 names w) (λ y f. formed_if _ x h)
other_formed None x names w h = formed_ok _ (maybe_if (is_maybe x) x refl h)

layer_formed : (y : Expr-F Such) (names : Kinds) → AreWellFormed names → Formed (kind_step (map-Expr Expr Typing kind_of (map-Expr Such Expr bare y)) names)
layer_formed (e.Lit v) names w = literal_formed v
layer_formed (e.Name n) names w = known_formed (names n) (w n)
layer_formed e.Place names w = formed_ok _ formed-Int
layer_formed (e.Neg s) names w = formed_then _ _ (s.1 names w) (λ x f. formed_if _ _ formed-Int)
layer_formed (e.Not s) names w = formed_then _ _ (s.1 names w) (λ x f. formed_if _ _ formed-Bool)
layer_formed (e.Two o s t) names w = formed_then _ _ (s.1 names w) (λ x f. formed_then _ _ (t.1 names w) (λ y g. two_formed o x y))
layer_formed (e.Call c s) names w = formed_then _ _ (s.1 names w) (λ x f. call_formed c x)
layer_formed (e.If t s None) names w =
    formed_then _ _ (t.1 names w) (λ x f. formed_choice (kn.is_bool x) _ _ (formed_then _ _ (s.1 names w) (λ y g. other_formed None y names w g)) (formed_err _))
layer_formed (e.If t s (Some o)) names w =
    formed_then _ _ (t.1 names w) (λ x f. formed_choice (kn.is_bool x) _ _ (formed_then _ _ (s.1 names w) (λ y g. other_formed (Some o) y names w g)) (formed_err _))
layer_formed (e.Tuple ss) names w = parts_formed ss [] names w refl

all_formed : (x : Expr) → IsFormed x
all_formed = ind-Expr IsFormed (λ x y is names w.
    let v = ap (λ f. f names) (fold-roll-Expr Typing kind_step x) in
    let layer = subst (λ z. Formed (kind_step (map-Expr Expr Typing kind_of z) names)) is (layer_formed y names w) in
    subst Formed (sym v) layer)

pub kinds_formed : (x : Expr) (names : Kinds) (k : ValueKind) → AreWellFormed names → kind_of x names ≡ Ok k → is_well_formed k ≡ true
kinds_formed x names k w e = (all_formed x names w).formed k e

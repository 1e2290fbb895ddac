-- The value of an expression depends on the values of the names in it alone.
use Rattle.std.proofs.Common.{◌≡◌, ℕ, List, [], ◌∷◌, ◌++◌, map, Some, None, Ok, Err, refl, ap, sym, ◌∙◌, subst}
use Rattle.std.specs.Prelude.{if◌then◌else◌}
use Rattle.loop_data.specs.declared.value.Value.{Value}
use Rattle.loop_data.specs.declared.expr.Expr.{Expr, fold-roll-Expr, ind-Expr, map-Expr}
use Rattle.loop_data.specs.declared.expr.Expr.TheOpen.{Expr-F, Expr-F as e}
use Rattle.loop_values.specs.Bindings.{Names}
use Rattle.loop_values.specs.Operations.{Outcome, and_then}
use Rattle.loop_data.specs.ValueParts.{as_bool}
use Rattle.loop_values.specs.Values.{Meaning, value_of, value_step, bound, second, other_of, part_values}
use Rattle.loop_values.specs.NamesIn.{names_in, names_step, all_names, SameAt}

pub front : (f g : Names) (xs ys : List (List ℕ)) → SameAt f g (xs ++ ys) → SameAt f g xs
front f g [] ys h = tt
front f g (x ∷ xs) ys h = (h.0, front f g xs ys h.1)

pub back : (f g : Names) (xs ys : List (List ℕ)) → SameAt f g (xs ++ ys) → SameAt f g ys
back f g [] ys h = h
back f g (x ∷ xs) ys h = back f g xs ys h.1

abbrev IsSettled : Expr → Type 0
IsSettled x = (f g : Names) → SameAt f g (names_in x) → value_of x f ≡ value_of x g

abbrev Such : Type 0
Such = (x : Expr) × IsSettled x

abbrev bare : Such → Expr
bare s = s.0

then_same : (r s : Outcome) (k l : Value → Outcome) → r ≡ s → ((v : Value) → k v ≡ l v) → and_then r k ≡ and_then s l
then_same (Ok v) s k l e h = h v ∙ ap (λ t. and_then t l) e
then_same (Err x) s k l e h = ap (λ t. and_then t l) e

abbrev means : Such → Meaning
means s = value_of (bare s)

parts_same : (ss : List Such) (done : List Value) (f g : Names) → SameAt f g (all_names (map names_in (map bare ss))) → part_values done (map value_of (map bare ss)) f ≡ part_values done (map value_of (map bare ss)) g
parts_same [] done f g h = refl
parts_same (s ∷ ss) done f g h =
    then_same _ _ _ _ (s.1 f g (front f g _ _ h)) (λ v. parts_same ss (done ++ v ∷ []) f g (back f g (names_in s.0) _ h))

abbrev layer_names : Expr-F Such → List (List ℕ)
layer_names y = names_step (map-Expr Expr (List (List ℕ)) names_in (map-Expr Such Expr bare y))

abbrev layer_value : Expr-F Such → Meaning
layer_value y = value_step (map-Expr Expr Meaning value_of (map-Expr Such Expr bare y))

layer_same : (y : Expr-F Such) (f g : Names) → SameAt f g (layer_names y) → layer_value y f ≡ layer_value y g
layer_same (e.Lit v) f g h = refl
layer_same (e.Name n) f g h = ap bound h.0
layer_same e.Place f g h = ap bound h.0
layer_same (e.Neg a) f g h = then_same _ _ _ _ (a.1 f g h) (λ v. refl)
layer_same (e.Not a) f g h = then_same _ _ _ _ (a.1 f g h) (λ v. refl)
layer_same (e.Two o a b) f g h =
    then_same _ _ _ _ (a.1 f g (front f g _ _ h)) (λ v. ap (second o v) (b.1 f g (back f g (names_in a.0) _ h)))
layer_same (e.Call w a) f g h = then_same _ _ _ _ (a.1 f g h) (λ v. refl)
layer_same (e.If t a None) f g h =
    let ta = front f g (names_in t.0 ++ names_in a.0) [] h in
    then_same _ _ _ _ (t.1 f g (front f g _ _ ta)) (λ v. ap (λ r. if as_bool v then r else other_of None g) (a.1 f g (back f g (names_in t.0) _ ta)))
layer_same (e.If t a (Some b)) f g h =
    let ta = front f g (names_in t.0 ++ names_in a.0) _ h in
    let hb = back f g (names_in t.0 ++ names_in a.0) _ h in
    then_same _ _ _ _ (t.1 f g (front f g _ _ ta)) (λ v.
    ap (λ r. if as_bool v then r else value_of b.0 f) (a.1 f g (back f g (names_in t.0) _ ta))
    ∙ ap (λ r. if as_bool v then value_of a.0 g else r) (b.1 f g hb))
layer_same (e.Tuple ss) f g h = parts_same ss [] f g h

pub settled : (x : Expr) → IsSettled x
settled = ind-Expr IsSettled (λ x y is f g h.
    let n = fold-roll-Expr (List (List ℕ)) names_step x in
    let v = fold-roll-Expr Meaning value_step x in
    let k = subst (SameAt f g) n h in
    let layer = subst (λ w. SameAt f g (names_step (map-Expr Expr (List (List ℕ)) names_in w)) → value_step (map-Expr Expr Meaning value_of w) f ≡ value_step (map-Expr Expr Meaning value_of w) g) is (layer_same y f g) in
    ap (λ m. m f) v ∙ layer k ∙ sym (ap (λ m. m g) v))

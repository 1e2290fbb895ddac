-- The kind of an expression depends on the kinds of the names that it reads alone.
use Rattle.std.proofs.Common.{◌≡◌, ℕ, List, [], ◌∷◌, ◌++◌, map, Some, None, Ok, Err, refl, ap, sym, ◌∙◌, subst}
use Rattle.std.specs.Prelude.{if◌then◌else◌}
use Rattle.loop_data.specs.declared.value.ValueKind.{ValueKind}
use Rattle.loop_data.specs.declared.expr.Expr.{Expr, fold-roll-Expr, ind-Expr, map-Expr}
use Rattle.loop_data.specs.declared.expr.Expr.TheOpen.{Expr-F, Expr-F as e}
use Rattle.loop_values.specs.declared.stop.TypeStop.TheVariants.{Differs}
use Rattle.loop_values.specs.Kinds.{Kinds, Kinded, Typing, kind_of, kind_step, and_then, known, is_bool, is_maybe, two_kind, part_kinds}
use Rattle.loop_values.specs.NamesIn.{all_names, names_read, read_step, SameAt}

front : (f g : Kinds) (xs ys : List (List ℕ)) → SameAt f g (xs ++ ys) → SameAt f g xs
front f g [] ys h = tt
front f g (x ∷ xs) ys h = (h.0, front f g xs ys h.1)

back : (f g : Kinds) (xs ys : List (List ℕ)) → SameAt f g (xs ++ ys) → SameAt f g ys
back f g [] ys h = h
back f g (x ∷ xs) ys h = back f g xs ys h.1

abbrev IsSettled : Expr → Type 0
IsSettled x = (f g : Kinds) → SameAt f g (names_read x) → kind_of x f ≡ kind_of x g

abbrev Such : Type 0
Such = (x : Expr) × IsSettled x

abbrev bare : Such → Expr
bare s = s.0

then_same : (r s : Kinded) (k l : ValueKind → Kinded) → r ≡ s → ((x : ValueKind) → k x ≡ l x) → and_then r k ≡ and_then s l
then_same (Ok x) s k l e h = h x ∙ ap (λ t. and_then t l) e
then_same (Err x) s k l e h = ap (λ t. and_then t l) e

parts_same : (ss : List Such) (done : List ValueKind) (f g : Kinds) → SameAt f g (all_names (map names_read (map bare ss))) →
    part_kinds done (map kind_of (map bare ss)) f ≡ part_kinds done (map kind_of (map bare ss)) g
parts_same [] done f g h = refl
parts_same (s ∷ ss) done f g h =
    then_same _ _ _ _ (s.1 f g (front f g _ _ h)) (λ x. ap (λ r. if is_maybe x then Err Differs else r) (parts_same ss (done ++ x ∷ []) f g (back f g (names_read s.0) _ h)))

abbrev layer_names : Expr-F Such → List (List ℕ)
layer_names y = read_step (map-Expr Expr (List (List ℕ)) names_read (map-Expr Such Expr bare y))

abbrev layer_kind : Expr-F Such → Typing
layer_kind y = kind_step (map-Expr Expr Typing kind_of (map-Expr Such Expr bare y))

layer_same : (y : Expr-F Such) (f g : Kinds) → SameAt f g (layer_names y) → layer_kind y f ≡ layer_kind y g
layer_same (e.Lit v) f g h = refl
layer_same (e.Name n) f g h = ap known h.0
layer_same e.Place f g h = refl
layer_same (e.Neg a) f g h = then_same _ _ _ _ (a.1 f g h) (λ x. refl)
layer_same (e.Not a) f g h = then_same _ _ _ _ (a.1 f g h) (λ x. refl)
layer_same (e.Two o a b) f g h =
    then_same _ _ _ _ (a.1 f g (front f g _ _ h)) (λ x. ap (λ r. and_then r (two_kind o x)) (b.1 f g (back f g (names_read a.0) _ h)))
layer_same (e.Call w a) f g h = then_same _ _ _ _ (a.1 f g h) (λ x. refl)
layer_same (e.If t a None) f g h =
    let ta = front f g (names_read t.0 ++ names_read a.0) [] h in
    then_same _ _ _ _ (t.1 f g (front f g _ _ ta)) (λ x. ap (λ r. if is_bool x then r else Err Differs) (then_same _ _ _ _ (a.1 f g (back f g (names_read t.0) _ ta)) (λ y. refl)))
layer_same (e.If t a (Some b)) f g h =
    let ta = front f g (names_read t.0 ++ names_read a.0) _ h in
    let hb = back f g (names_read t.0 ++ names_read a.0) _ h in
    then_same _ _ _ _ (t.1 f g (front f g _ _ ta)) (λ x. ap (λ r. if is_bool x then r else Err Differs)
    (then_same _ _ _ _ (a.1 f g (back f g (names_read t.0) _ ta)) (λ y. then_same _ _ _ _ (b.1 f g hb) (λ z. refl))))
layer_same (e.Tuple ss) f g h = parts_same ss [] f g h

pub settled : (x : Expr) → IsSettled x
settled = ind-Expr IsSettled (λ x y is f g h.
    let n = fold-roll-Expr (List (List ℕ)) read_step x in
    let v = fold-roll-Expr Typing kind_step x in
    let k = subst (SameAt f g) n h in
    let layer = subst (λ w. SameAt f g (read_step (map-Expr Expr (List (List ℕ)) names_read w)) → kind_step (map-Expr Expr Typing kind_of w) f ≡ kind_step (map-Expr Expr Typing kind_of w) g) is (layer_same y f g) in
    ap (λ m. m f) v ∙ layer k ∙ sym (ap (λ m. m g) v))

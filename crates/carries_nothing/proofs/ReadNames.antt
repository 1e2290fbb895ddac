-- The names that an expression or a tower asks for are those that it reads, and `place`.
use Rattle.std.proofs.Common.{◌≡◌, ℕ, Bool, true, false, List, [], ◌∷◌, ◌++◌, map, Some, None, sym, subst}
use Rattle.std.specs.Prelude.{if◌then◌else◌}
use Rattle.loop_data.specs.declared.expr.Expr.{Expr, fold-roll-Expr, ind-Expr, map-Expr}
use Rattle.loop_data.specs.declared.expr.Expr.TheOpen.{Expr-F, Expr-F as e}
use Rattle.loop_data.specs.declared.tower.TowerExpr.{TowerExpr, fold-roll-TowerExpr, ind-TowerExpr, map-TowerExpr}
use Rattle.loop_data.specs.declared.tower.TowerExpr.TheOpen.{TowerExpr-F, TowerExpr-F as t}
use Rattle.loop_values.specs.Bindings.{Names, place_name}
use Rattle.loop_values.specs.NamesIn.{SameAt, all_names, names_in, names_read, names_step, read_step}
use Rattle.loop_values.proofs.NamesLemmas.{back, front}
use Rattle.tower_inputs.specs.Towers.{names_in_tower, names_read_in_tower, tower_names_step, tower_read_step, with_place}

both : (f g : Names) (xs ys : List (List ℕ)) → SameAt f g xs → SameAt f g ys → SameAt f g (xs ++ ys)
both f g [] ys h k = k
both f g (x ∷ xs) ys h k = (h.0, both f g xs ys h.1 k)

-- ---- expressions

abbrev IsAsked : Expr → Type 0
IsAsked x = (f g : Names) → f place_name ≡ g place_name → SameAt f g (names_read x) → SameAt f g (names_in x)

abbrev Such : Type 0
Such = (x : Expr) × IsAsked x

abbrev bare : Such → Expr
bare s = s.0

parts_asked : (ss : List Such) (f g : Names) → f place_name ≡ g place_name → SameAt f g (all_names (map names_read (map bare ss))) → SameAt f g (all_names (map names_in (map bare ss)))
parts_asked [] f g place h = tt
parts_asked (s ∷ ss) f g place h =
    both f g (names_in s.0) _ (s.1 f g place (front f g (names_read s.0) _ h)) (parts_asked ss f g place (back f g (names_read s.0) _ h))

abbrev read_in : Expr-F Expr → List (List ℕ)
read_in w = read_step (map-Expr Expr (List (List ℕ)) names_read w)

abbrev asked_in : Expr-F Expr → List (List ℕ)
asked_in w = names_step (map-Expr Expr (List (List ℕ)) names_in w)

abbrev bared : Expr-F Such → Expr-F Expr
bared y = map-Expr Such Expr bare y

layer_asked : (y : Expr-F Such) (f g : Names) → f place_name ≡ g place_name → SameAt f g (read_in (bared y)) → SameAt f g (asked_in (bared y))
layer_asked (e.Lit v) f g place h = tt
layer_asked (e.Name n) f g place h = h
layer_asked e.Place f g place h = (place, tt)
layer_asked (e.Neg a) f g place h = a.1 f g place h
layer_asked (e.Not a) f g place h = a.1 f g place h
layer_asked (e.Two o a b) f g place h =
    both f g (names_in a.0) (names_in b.0) (a.1 f g place (front f g (names_read a.0) _ h)) (b.1 f g place (back f g (names_read a.0) _ h))
layer_asked (e.Call w a) f g place h = a.1 f g place h
layer_asked (e.If t a None) f g place h =
    let ta = front f g (names_read t.0 ++ names_read a.0) [] h in
    both f g (names_in t.0 ++ names_in a.0) []
    (both f g (names_in t.0) (names_in a.0) (t.1 f g place (front f g (names_read t.0) _ ta)) (a.1 f g place (back f g (names_read t.0) _ ta))) tt
layer_asked (e.If t a (Some b)) f g place h =
    let ta = front f g (names_read t.0 ++ names_read a.0) _ h in
    both f g (names_in t.0 ++ names_in a.0) (names_in b.0)
    (both f g (names_in t.0) (names_in a.0) (t.1 f g place (front f g (names_read t.0) _ ta)) (a.1 f g place (back f g (names_read t.0) _ ta)))
    (b.1 f g place (back f g (names_read t.0 ++ names_read a.0) _ h))
layer_asked (e.Tuple ss) f g place h = parts_asked ss f g place h

pub asked : (x : Expr) → IsAsked x
asked = ind-Expr IsAsked (λ x y is f g place h.
    let layer = subst (λ w. SameAt f g (read_in w) → SameAt f g (asked_in w)) is (layer_asked y f g place) in
    subst (SameAt f g) (sym (fold-roll-Expr (List (List ℕ)) names_step x)) (layer (subst (SameAt f g) (fold-roll-Expr (List (List ℕ)) read_step x) h)))

-- ---- towers

abbrev IsAskedTower : TowerExpr → Type 0
IsAskedTower x = (f g : Names) → f place_name ≡ g place_name → SameAt f g (names_read_in_tower x) → SameAt f g (names_in_tower x)

abbrev SuchTower : Type 0
SuchTower = (x : TowerExpr) × IsAskedTower x

abbrev bare_tower : SuchTower → TowerExpr
bare_tower s = s.0

abbrev read_in_tower : TowerExpr-F TowerExpr → List (List ℕ)
read_in_tower w = tower_read_step (map-TowerExpr TowerExpr (List (List ℕ)) names_read_in_tower w)

abbrev asked_in_tower : TowerExpr-F TowerExpr → List (List ℕ)
asked_in_tower w = tower_names_step (map-TowerExpr TowerExpr (List (List ℕ)) names_in_tower w)

place_asked : (b : Bool) (f g : Names) → f place_name ≡ g place_name → SameAt f g (if b then place_name ∷ [] else [])
place_asked true f g place = (place, tt)
place_asked false f g place = tt

layer_asked_tower : (y : TowerExpr-F SuchTower) (f g : Names) → f place_name ≡ g place_name →
    SameAt f g (read_in_tower (map-TowerExpr SuchTower TowerExpr bare_tower y)) → SameAt f g (asked_in_tower (map-TowerExpr SuchTower TowerExpr bare_tower y))
layer_asked_tower (t.Leaf kind x) f g place h = both f g (names_in x) _ (asked x f g place h) (place_asked (with_place kind) f g place)
layer_asked_tower t.Count f g place h = tt
layer_asked_tower (t.Grouped key s) f g place h =
    both f g (names_in key) (names_in_tower s.0) (asked key f g place (front f g (names_read key) _ h)) (s.1 f g place (back f g (names_read key) _ h))
layer_asked_tower (t.Both l r) f g place h =
    both f g (names_in_tower l.0) (names_in_tower r.0) (l.1 f g place (front f g (names_read_in_tower l.0) _ h)) (r.1 f g place (back f g (names_read_in_tower l.0) _ h))

pub asked_tower : (x : TowerExpr) → IsAskedTower x
asked_tower = ind-TowerExpr IsAskedTower (λ x y is f g place h.
    let layer = subst (λ w. SameAt f g (read_in_tower w) → SameAt f g (asked_in_tower w)) is (layer_asked_tower y f g place) in
    subst (SameAt f g) (sym (fold-roll-TowerExpr (List (List ℕ)) tower_names_step x))
    (layer (subst (SameAt f g) (fold-roll-TowerExpr (List (List ℕ)) tower_read_step x) h)))

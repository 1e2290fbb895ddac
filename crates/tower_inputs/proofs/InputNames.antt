-- A tower's input depends on the values of its names alone, and the kinds of its input on the kinds of the names that it reads.
use Rattle.std.proofs.Common.{◌≡◌, ℕ, Bool, true, false, List, [], ◌∷◌, ◌++◌, Ok, Err, refl, ap, sym, ◌∙◌, subst}
use Rattle.std.specs.Prelude.{if◌then◌else◌}
use Rattle.loop_data.specs.declared.value.Value.{Value}
use Rattle.loop_data.specs.declared.expr.Expr.{Expr}
use Rattle.loop_data.specs.declared.tower.Kind.{Kind}
use Rattle.loop_data.specs.declared.tower.TowerExpr.{TowerExpr, fold-roll-TowerExpr, ind-TowerExpr, map-TowerExpr}
use Rattle.loop_data.specs.declared.tower.TowerExpr.TheOpen.{TowerExpr-F, TowerExpr-F as t}
use Rattle.loop_values.specs.Bindings.{Names, place_name}
use Rattle.loop_values.specs.Kinds.{Kinds, is_text, kind_of}
use Rattle.loop_values.specs.NamesIn.{SameAt, names_in, names_read}
use Rattle.loop_values.specs.Operations.{Outcome, and_then}
use Rattle.loop_values.specs.Values.{Meaning, bound, value_of}
use Rattle.loop_values.proofs.KindNames as kn
use Rattle.loop_values.proofs.NamesLemmas.{back, front, settled}
use Rattle.tower_inputs.specs.InputKinds.{InputKinds, both_kinds, input_kinds_step, kind_that, kinds_of_input, takes}
use Rattle.tower_inputs.specs.Inputs.{input_of, input_step, paired}
use Rattle.tower_inputs.specs.Towers.{names_in_tower, names_read_in_tower, tower_names_step, tower_read_step, with_place}

-- ---- inputs

abbrev IsSettled : TowerExpr → Type 0
IsSettled x = (f g : Names) → SameAt f g (names_in_tower x) → input_of x f ≡ input_of x g

abbrev Such : Type 0
Such = (x : TowerExpr) × IsSettled x

abbrev bare : Such → TowerExpr
bare s = s.0

then_same : (r s : Outcome) (k l : Value → Outcome) → r ≡ s → ((v : Value) → k v ≡ l v) → and_then r k ≡ and_then s l
then_same (Ok v) s k l e h = h v ∙ ap (λ t. and_then t l) e
then_same (Err x) s k l e h = ap (λ t. and_then t l) e

place_same : (b : Bool) (v : Value) (f g : Names) → SameAt f g (if b then place_name ∷ [] else []) →
    ◌≡◌ {A = Outcome} (if b then paired v (bound (f place_name)) else Ok v) (if b then paired v (bound (g place_name)) else Ok v)
place_same true v f g h = ap (λ o. paired v (bound o)) h.0
place_same false v f g h = refl

abbrev layer_names : TowerExpr-F Such → List (List ℕ)
layer_names y = tower_names_step (map-TowerExpr TowerExpr (List (List ℕ)) names_in_tower (map-TowerExpr Such TowerExpr bare y))

abbrev layer_input : TowerExpr-F Such → Meaning
layer_input y = input_step (map-TowerExpr TowerExpr Meaning input_of (map-TowerExpr Such TowerExpr bare y))

layer_same : (y : TowerExpr-F Such) (f g : Names) → SameAt f g (layer_names y) → layer_input y f ≡ layer_input y g
layer_same (t.Leaf kind x) f g h =
    let place = back f g (names_in x) (if with_place kind then place_name ∷ [] else []) h in
    then_same _ _ _ _ (settled x f g (front f g (names_in x) _ h)) (λ v. place_same (with_place kind) v f g place)
layer_same t.Count f g h = refl
layer_same (t.Grouped key s) f g h =
    let inner = back f g (names_in key) (names_in_tower s.0) h in
    then_same _ _ _ _ (settled key f g (front f g (names_in key) _ h)) (λ v. ap (paired v) (s.1 f g inner))
layer_same (t.Both l r) f g h =
    let right = back f g (names_in_tower l.0) (names_in_tower r.0) h in
    then_same _ _ _ _ (l.1 f g (front f g (names_in_tower l.0) (names_in_tower r.0) h)) (λ v. ap (paired v) (r.1 f g right))

pub input_settled : (x : TowerExpr) → IsSettled x
input_settled = ind-TowerExpr IsSettled (λ x y is f g h.
    let n = fold-roll-TowerExpr (List (List ℕ)) tower_names_step x in
    let v = fold-roll-TowerExpr Meaning input_step x in
    let k = subst (SameAt f g) n h in
    let layer = subst (λ w. SameAt f g (tower_names_step (map-TowerExpr TowerExpr (List (List ℕ)) names_in_tower w)) → input_step (map-TowerExpr TowerExpr Meaning input_of w) f ≡ input_step (map-TowerExpr TowerExpr Meaning input_of w) g) is (layer_same y f g) in
    ap (λ m. m f) v ∙ layer k ∙ sym (ap (λ m. m g) v))

-- ---- kinds of input

before : (f g : Kinds) (xs ys : List (List ℕ)) → SameAt f g (xs ++ ys) → SameAt f g xs
before f g [] ys h = tt
before f g (x ∷ xs) ys h = (h.0, before f g xs ys h.1)

after : (f g : Kinds) (xs ys : List (List ℕ)) → SameAt f g (xs ++ ys) → SameAt f g ys
after f g [] ys h = h
after f g (x ∷ xs) ys h = after f g xs ys h.1

abbrev IsKnown : TowerExpr → Type 0
IsKnown x = (f g : Kinds) → SameAt f g (names_read_in_tower x) → kinds_of_input x f ≡ kinds_of_input x g

abbrev Known : Type 0
Known = (x : TowerExpr) × IsKnown x

abbrev plain : Known → TowerExpr
plain s = s.0

abbrev Typing : Type 0
Typing = Kinds → InputKinds

abbrev layer_read : TowerExpr-F Known → List (List ℕ)
layer_read y = tower_read_step (map-TowerExpr TowerExpr (List (List ℕ)) names_read_in_tower (map-TowerExpr Known TowerExpr plain y))

abbrev layer_kinds : TowerExpr-F Known → Typing
layer_kinds y = input_kinds_step (map-TowerExpr TowerExpr Typing kinds_of_input (map-TowerExpr Known TowerExpr plain y))

layer_known : (y : TowerExpr-F Known) (f g : Kinds) → SameAt f g (layer_read y) → layer_kinds y f ≡ layer_kinds y g
layer_known (t.Leaf kind x) f g h = ap (kind_that (takes kind)) (kn.settled x f g h)
layer_known t.Count f g h = refl
layer_known (t.Grouped key s) f g h =
    ap (λ r. both_kinds (kind_that is_text r) (kinds_of_input s.0 f)) (kn.settled key f g (before f g (names_read key) (names_read_in_tower s.0) h))
    ∙ ap (both_kinds (kind_that is_text (kind_of key g))) (s.1 f g (after f g (names_read key) (names_read_in_tower s.0) h))
layer_known (t.Both l r) f g h =
    ap (λ k. both_kinds k (kinds_of_input r.0 f)) (l.1 f g (before f g (names_read_in_tower l.0) (names_read_in_tower r.0) h))
    ∙ ap (both_kinds (kinds_of_input l.0 g)) (r.1 f g (after f g (names_read_in_tower l.0) (names_read_in_tower r.0) h))

pub kinds_settled : (x : TowerExpr) → IsKnown x
kinds_settled = ind-TowerExpr IsKnown (λ x y is f g h.
    let n = fold-roll-TowerExpr (List (List ℕ)) tower_read_step x in
    let v = fold-roll-TowerExpr Typing input_kinds_step x in
    let k = subst (SameAt f g) n h in
    let layer = subst (λ w. SameAt f g (tower_read_step (map-TowerExpr TowerExpr (List (List ℕ)) names_read_in_tower w)) → input_kinds_step (map-TowerExpr TowerExpr Typing kinds_of_input w) f ≡ input_kinds_step (map-TowerExpr TowerExpr Typing kinds_of_input w) g) is (layer_known y f g) in
    ap (λ m. m f) v ∙ layer k ∙ sym (ap (λ m. m g) v))

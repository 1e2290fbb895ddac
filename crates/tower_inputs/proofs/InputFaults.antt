-- The faults of a tower's input, and the one way in which a tower has no kinds of input.
use Rattle.std.proofs.Common.{◌≡◌, ℕ, Bool, true, false, List, [], ◌∷◌, ◌++◌, Option, Some, None, Ok, Err, refl, ap, sym, ◌∙◌, subst}
use Rattle.std.specs.Prelude.{◌&&◌, if◌then◌else◌}
use Rattle.std.specs.List.{list_all}
use Rattle.loop_data.specs.declared.value.Value.{Value}
use Rattle.loop_data.specs.declared.value.ValueKind.{ValueKind}
use Rattle.loop_data.specs.declared.tower.Kind.{Kind}
use Rattle.loop_data.specs.declared.tower.TowerExpr.{TowerExpr, fold-roll-TowerExpr, ind-TowerExpr, map-TowerExpr}
use Rattle.loop_data.specs.declared.tower.TowerExpr.TheOpen.{TowerExpr-F, TowerExpr-F as t}
use Rattle.loop_values.specs.declared.stop.EvalStop.{EvalStop}
use Rattle.loop_values.specs.declared.stop.TypeStop.{TypeStop}
use Rattle.loop_values.specs.declared.stop.TypeStop.TheVariants.{Differs}
use Rattle.loop_values.specs.Bindings.{Names, place_name}
use Rattle.loop_values.specs.Kinds.{Kinds, Kinded, is_text, kind_of}
use Rattle.loop_values.specs.Laws.{is_value_fault}
use Rattle.loop_values.specs.Operations.{Outcome, and_then}
use Rattle.loop_values.specs.Values.{Meaning, bound, value_of}
use Rattle.loop_values.proofs.FaultLemmas.{differs_only, three_faults}
use Rattle.tower_inputs.specs.InputKinds.{InputKinds, both_kinds, followed_by, input_kinds_step, kind_that, kinds_of_input, one_kind, takes}
use Rattle.tower_inputs.specs.Inputs.{input_of, input_step, paired}
use Rattle.tower_inputs.specs.Towers.{with_place}

-- ---- inputs

record Faults (r : Outcome) : Type 0 where
  known : (s : EvalStop) → r ≡ Err s → is_value_fault s ≡ true

value_has : (v : Value) → Faults (Ok v)
value_has v = record { known = λ s e. absurd (cc) }

expr_has : (r : Outcome) → ((s : EvalStop) → r ≡ Err s → is_value_fault s ≡ true) → Faults r
expr_has r h = record { known = h }

then_has : (r : Outcome) (f : Value → Outcome) → Faults r → ((v : Value) → Faults (f v)) → Faults (and_then r f)
then_has (Ok v) f h k = k v
then_has (Err s) f h k = record { known = λ t e. h.known t e }

paired_has : (v : Value) (r : Outcome) → Faults r → Faults (paired v r)
paired_has v r h = then_has r _ h (λ w. value_has _)

bound_has : (o : Option Value) → Faults (bound o)
bound_has (Some v) = value_has v
bound_has None = value_has _

leaf_has : (b : Bool) (v : Value) (r : Outcome) → Faults r → Faults (if b then paired v r else Ok v)
leaf_has true v r h = paired_has v r h
leaf_has false v r h = value_has v

abbrev HasFaults : TowerExpr → Type 0
HasFaults x = (env : Names) → Faults (input_of x env)

abbrev Such : Type 0
Such = (x : TowerExpr) × HasFaults x

abbrev bare : Such → TowerExpr
bare s = s.0

layer_has : (y : TowerExpr-F Such) (env : Names) → Faults (input_step (map-TowerExpr TowerExpr Meaning input_of (map-TowerExpr Such TowerExpr bare y)) env)
layer_has (t.Leaf kind x) env = then_has _ _ (expr_has _ (three_faults x env)) (λ v. leaf_has (with_place kind) v _ (bound_has (env place_name)))
layer_has t.Count env = value_has _
layer_has (t.Grouped key s) env = then_has _ _ (expr_has _ (three_faults key env)) (λ v. paired_has v _ (s.1 env))
layer_has (t.Both l r) env = then_has _ _ (l.1 env) (λ v. paired_has v _ (r.1 env))

faults_of : (x : TowerExpr) → HasFaults x
faults_of = ind-TowerExpr HasFaults (λ x y is env.
    let v = ap (λ f. f env) (fold-roll-TowerExpr Meaning input_step x) in
    let layer = subst (λ w. Faults (input_step (map-TowerExpr TowerExpr Meaning input_of w) env)) is (layer_has y env) in
    subst Faults (sym v) layer)

pub input_faults : (x : TowerExpr) (env : Names) (s : EvalStop) → input_of x env ≡ Err s → is_value_fault s ≡ true
input_faults x env s e = (faults_of x env).known s e

-- ---- kinds of input

record Differ (r : InputKinds) : Type 0 where
  only : (s : TypeStop) → r ≡ Err s → s ≡ Differs

kinds_differ : (xs : List ValueKind) → Differ (Ok xs)
kinds_differ xs = record { only = λ s e. absurd (cc) }

differs_differ : Differ (Err Differs)
differs_differ = record { only = λ s e. (cc) }

one_differ : (b : Bool) (x : ValueKind) → Differ (one_kind b x)
one_differ true x = kinds_differ _
one_differ false x = differs_differ

same_stop : (s t : TypeStop) → ◌≡◌ {A = InputKinds} (Err s) (Err t) → s ≡ t
same_stop s t e = cc

that_differ : (test : ValueKind → Bool) (r : Kinded) → ((s : TypeStop) → r ≡ Err s → s ≡ Differs) → Differ (kind_that test r)
that_differ test (Ok x) h = one_differ (test x) x
that_differ test (Err s) h = record { only = λ u e. sym (same_stop s u e) ∙ h s refl }

followed_differ : (xs : List ValueKind) (r : InputKinds) → Differ r → Differ (followed_by xs r)
followed_differ xs (Ok ys) h = kinds_differ _
followed_differ xs (Err s) h = h

both_differ : (q r : InputKinds) → Differ q → Differ r → Differ (both_kinds q r)
both_differ (Ok xs) r h k = followed_differ xs r k
both_differ (Err s) r h k = h

abbrev OnlyDiffers : TowerExpr → Type 0
OnlyDiffers x = (names : Kinds) → Differ (kinds_of_input x names)

abbrev Kindly : Type 0
Kindly = (x : TowerExpr) × OnlyDiffers x

abbrev plain : Kindly → TowerExpr
plain s = s.0

abbrev Typing : Type 0
Typing = Kinds → InputKinds

layer_differ : (y : TowerExpr-F Kindly) (names : Kinds) → Differ (input_kinds_step (map-TowerExpr TowerExpr Typing kinds_of_input (map-TowerExpr Kindly TowerExpr plain y)) names)
layer_differ (t.Leaf kind x) names = that_differ (takes kind) (kind_of x names) (differs_only x names)
layer_differ t.Count names = kinds_differ _
layer_differ (t.Grouped key s) names = both_differ _ _ (that_differ is_text (kind_of key names) (differs_only key names)) (s.1 names)
layer_differ (t.Both l r) names = both_differ _ _ (l.1 names) (r.1 names)

all_differ : (x : TowerExpr) → OnlyDiffers x
all_differ = ind-TowerExpr OnlyDiffers (λ x y is names.
    let v = ap (λ f. f names) (fold-roll-TowerExpr Typing input_kinds_step x) in
    let layer = subst (λ w. Differ (input_kinds_step (map-TowerExpr TowerExpr Typing kinds_of_input w) names)) is (layer_differ y names) in
    subst Differ (sym v) layer)

pub kinds_differ_only : (x : TowerExpr) (names : Kinds) (s : TypeStop) → kinds_of_input x names ≡ Err s → s ≡ Differs
kinds_differ_only x names s e = (all_differ x names).only s e

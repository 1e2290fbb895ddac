-- In a legal program start values and inputs fit their towers.
use Rattle.std.proofs.Common.{◌≡◌, ℕ, Bool, true, false, List, [], ◌∷◌, ◌++◌, Option, Some, None, Ok, Err, refl, sym, ap, subst, ◌∙◌, rules}
use Rattle.std.specs.Prelude.{if◌then◌else◌}
use Rattle.std.specs.List.{AllByRecursion}
use Rattle.std.proofs.lemmas.Bool.{and_parts}
use Rattle.loop_data.specs.declared.value.Value.{Value, the_lemmas as value_lemmas}
use Rattle.loop_data.specs.declared.value.Value.TheVariants as value
use Rattle.loop_data.specs.declared.value.ValueKind.{ValueKind, the_lemmas as kind_lemmas}
use Rattle.loop_data.specs.declared.value.ValueKind.TheVariants as kind
use Rattle.loop_data.specs.declared.expr.Expr.{Expr}
use Rattle.loop_data.specs.declared.tower.Kind.{Kind, out-Kind, the_lemmas as tower_kind_lemmas}
use Rattle.loop_data.specs.declared.tower.Kind.TheOpen.{Kind-F, Kind-F as k}
use Rattle.loop_data.specs.declared.tower.TowerExpr.{TowerExpr, out-TowerExpr, roll-TowerExpr, the_lemmas as tower_lemmas}
use Rattle.loop_data.specs.declared.tower.TowerExpr.TheOpen.{TowerExpr-F, TowerExpr-F as t}
use Rattle.loop_syntax.proofs.WellFormedTexts.{programs_are_well_formed}
use Rattle.loop_values.specs.Fits.{fits, fits_tower}
use Rattle.loop_values.specs.Kinds.{Kinded, Kinds, AreWellFormed, is_well_formed, kind_of, literal_kind}
use Rattle.tower_inputs.specs.InputKinds.{InputKinds, kind_that, kinds_of_input, one_kind, same_kinds, takes}
use Rattle.tower_inputs.specs.Towers.{kind_of_tower, with_place, with_place_at}
use Rattle.tower_inputs.proofs.InputFits.{input_fits, start_fits}
use Rattle.tower_inputs.proofs.SameKinds.{same_kinds-sound}
use Rattle.legality_rules.specs.Scopes.{kinds_in}
use Rattle.legality_rules.specs.Towers.{input_kinds, takes_start, takes_start_at, where_given}
use Rattle.legality_rules.specs.Lines.{Entry, Form, var_line, first_head, inner_head, init_line, let_line, set_line, condition, keep_line, reduce_line, print_line, entries_of}
use Rattle.legality_rules.specs.Rules.{Spot, allowed, inputs_fit, is_none, keeps_kinds, may_start, outline_of, passes, rules as all_rules, sites_of, starts_refused}
use Rattle.legality_rules.specs.Offences.{spots_after, spots_of}
use Rattle.legality_rules.specs.Laws.{KeepsRules}
use Rattle.legality_rules.proofs.RuleLemmas.{legal_keeps, legal_kinds}
use Rattle.legality_check.specs.Laws.{EmitsFitting, InputsFit, StartFits, KindsInScopeAreWellFormed, LegalInputsFit}
use Rattle.legality_check.proofs.FormedScopes.{EntriesFormed, formed_kinds, scopes_formed}

-- ---- what is emitted

given : (start : Option Value) (r : InputKinds) → inputs_fit start (where_given r) ≡ true → (xs : List ValueKind) × (r ≡ Ok xs)
given start (Ok xs) e = (xs, refl)
given None (Err s) e = absurd (cc)
given (Some v) (Err s) e = absurd (cc)

emits : (x : TowerExpr) (names : Kinds) (start : Option Value) → AreWellFormed names → inputs_fit start (input_kinds x names) ≡ true → EmitsFitting x names
emits x names start formed e env input agree place is =
    let g = given start (kinds_of_input x names) e in input_fits x names env g.0 input formed agree place g.1 is

-- ---- start values

-- a literal fits its kind, which is well formed
literal_fits : (v : Value) (x : ValueKind) → literal_kind v ≡ Ok x → (is_well_formed x ≡ true) × (fits x v ≡ true)
literal_fits (value.Int n) x e =
    let same : kind.Int ≡ x = cc in subst (λ z. (is_well_formed z ≡ true) × (fits z (value.Int n) ≡ true)) same (search (rules, kind_lemmas), search (rules, kind_lemmas, value_lemmas))
literal_fits (value.Bool b) x e =
    let same : kind.Bool ≡ x = cc in subst (λ z. (is_well_formed z ≡ true) × (fits z (value.Bool b) ≡ true)) same (search (rules, kind_lemmas), search (rules, kind_lemmas, value_lemmas))
literal_fits (value.Text s) x e =
    let same : kind.Text ≡ x = cc in subst (λ z. (is_well_formed z ≡ true) × (fits z (value.Text s) ≡ true)) same (search (rules, kind_lemmas), search (rules, kind_lemmas, value_lemmas))
literal_fits _ x e = absurd (cc)

no_place_at : (z : Kind-F Kind) → takes_start_at z ≡ true → with_place_at z ≡ false
no_place_at k.Sum e = refl
no_place_at k.Prod e = refl
no_place_at k.Count e = absurd (cc)
no_place_at k.Least e = refl
no_place_at k.Greatest e = refl
no_place_at k.LeastAt e = absurd (cc)
no_place_at k.GreatestAt e = absurd (cc)
no_place_at k.First e = refl
no_place_at k.Last e = refl
no_place_at k.Any e = refl
no_place_at k.All e = refl
no_place_at k.Listed e = refl
no_place_at (k.Grouped inner) e = absurd (cc)
no_place_at (k.Both l r) e = absurd (cc)

no_place : (x : Kind) → takes_start x ≡ true → with_place x ≡ false
no_place x e = no_place_at (out-Kind x) e

tower_rolled : (x : TowerExpr) → roll-TowerExpr (out-TowerExpr x) ≡ x
tower_rolled x = search (rules, tower_lemmas)

kind_of-Leaf : (leaf : Kind) (x : Expr) → kind_of_tower (roll-TowerExpr (t.Leaf leaf x)) ≡ leaf
kind_of-Leaf leaf x = search (rules, tower_lemmas)

kinds_of-Leaf : (leaf : Kind) (x : Expr) (names : Kinds) → kinds_of_input (roll-TowerExpr (t.Leaf leaf x)) names ≡ kind_that (takes leaf) (kind_of x names)
kinds_of-Leaf leaf x names = search (rules, tower_lemmas)

never-Count : takes_start (kind_of_tower (roll-TowerExpr t.Count)) ≡ false
never-Count = search (rules, tower_lemmas, tower_kind_lemmas)

never-Grouped : (key : Expr) (inner : TowerExpr) → takes_start (kind_of_tower (roll-TowerExpr (t.Grouped key inner))) ≡ false
never-Grouped key inner = search (rules, tower_lemmas, tower_kind_lemmas)

never-Both : (l r : TowerExpr) → takes_start (kind_of_tower (roll-TowerExpr (t.Both l r))) ≡ false
never-Both l r = search (rules, tower_lemmas, tower_kind_lemmas)

taken : (test : ValueKind → Bool) (b : Bool) (y x : ValueKind) → test y ≡ b → one_kind b y ≡ Ok (x ∷ []) → test x ≡ true
taken test true y x h e = let same : y ≡ x = cc in subst (λ z. test z ≡ true) same h
taken test false y x h e = absurd (cc)

-- a tower of one expression, whose input has this kind, takes it
leaf_takes : (test : ValueKind → Bool) (r : Kinded) (x : ValueKind) → kind_that test r ≡ Ok (x ∷ []) → test x ≡ true
leaf_takes test (Ok y) x e = taken test (test y) y x refl e
leaf_takes test (Err s) x e = absurd (cc)

-- a start value of the kind of the one input fits a tower that takes start values
fitting_at : (z : TowerExpr-F TowerExpr) (names : Kinds) (v : Value) (x : ValueKind) → takes_start (kind_of_tower (roll-TowerExpr z)) ≡ true →
    kinds_of_input (roll-TowerExpr z) names ≡ Ok (x ∷ []) → literal_kind v ≡ Ok x → fits_tower (kind_of_tower (roll-TowerExpr z)) v ≡ true
fitting_at (t.Leaf leaf y) names v x s h e =
    let f = literal_fits v x e in
    let starts : takes_start leaf ≡ true = ap takes_start (sym (kind_of-Leaf leaf y)) ∙ s in
    let takes_it : takes leaf x ≡ true = leaf_takes (takes leaf) (kind_of y names) x (sym (kinds_of-Leaf leaf y names) ∙ h) in
    ap (λ d. fits_tower d v) (kind_of-Leaf leaf y) ∙ start_fits leaf x v takes_it (no_place leaf starts) f.0 f.1
fitting_at t.Count names v x s h e = let never = never-Count in absurd (cc)
fitting_at (t.Grouped key inner) names v x s h e = let never = never-Grouped key inner in absurd (cc)
fitting_at (t.Both l r) names v x s h e = let never = never-Both l r in absurd (cc)

fitting : (y : TowerExpr) (names : Kinds) (v : Value) (x : ValueKind) → takes_start (kind_of_tower y) ≡ true →
    kinds_of_input y names ≡ Ok (x ∷ []) → literal_kind v ≡ Ok x → fits_tower (kind_of_tower y) v ≡ true
fitting y names v x s h e =
    let P : TowerExpr → Type 0 = λ w. takes_start (kind_of_tower w) ≡ true → kinds_of_input w names ≡ Ok (x ∷ []) → fits_tower (kind_of_tower w) v ≡ true in
    subst P (tower_rolled y) (λ a b. fitting_at (out-TowerExpr y) names v x a b e) s h

-- the kinds are those of the literal alone
of_literal : (r : Kinded) (xs : List ValueKind) → passes (λ x. same_kinds (x ∷ []) xs) r ≡ true → (x : ValueKind) × (r ≡ Ok x) × (xs ≡ x ∷ [])
of_literal (Ok x) xs e = (x, refl, sym (same_kinds-sound (x ∷ []) xs e))
of_literal (Err s) xs e = absurd (cc)

start_of : (y : TowerExpr) (names : Kinds) (v : Value) (r : InputKinds) → kinds_of_input y names ≡ r → takes_start (kind_of_tower y) ≡ true → inputs_fit (Some v) (where_given r) ≡ true →
    fits_tower (kind_of_tower y) v ≡ true
start_of y names v (Ok xs) is s e =
    let l = of_literal (literal_kind v) xs e in fitting y names v l.0 s (is ∙ ap (λ zs. Ok zs) l.2) l.1
start_of y names v (Err f) is s e = absurd (cc)

may : (b : Bool) (n : List ℕ) → (if b then [] else n ∷ []) ≡ [] → b ≡ true
may true n e = refl
may false n e = absurd (cc)

start_there : (spot : Spot) (n : List ℕ) (y : TowerExpr) (start : Option Value) → starts_refused spot (reduce_line n y start) ≡ [] →
    inputs_fit (allowed start (may_start spot n y)) (input_kinds y (kinds_in spot.here.scope)) ≡ true → StartFits start y
start_there spot n y None r e = tt
start_there spot n y (Some v) r e =
    let m : may_start spot n y ≡ true = may (may_start spot n y) n r in
    let s : takes_start (kind_of_tower y) ≡ true = (and_parts (is_none (sites_of n spot.earlier)) (takes_start (kind_of_tower y)) m).1 in
    start_of y (kinds_in spot.here.scope) v (kinds_of_input y (kinds_in spot.here.scope)) refl s
    (subst (λ b. inputs_fit (allowed (Some v) b) (input_kinds y (kinds_in spot.here.scope)) ≡ true) m e)

-- ---- entries

at_form : (spot : Spot) (form : Form) → AreWellFormed (kinds_in spot.here.scope) → keeps_kinds spot form ≡ true → starts_refused spot form ≡ [] → InputsFit (kinds_in spot.here.scope) form
at_form spot (var_line n v) f e r = tt
at_form spot (first_head ns axes product) f e r = tt
at_form spot (inner_head n range) f e r = tt
at_form spot (init_line n v) f e r = tt
at_form spot (let_line ns x) f e r = tt
at_form spot (set_line n x) f e r = tt
at_form spot (condition x) f e r = tt
at_form spot (keep_line n x) f e r = tt
at_form spot (reduce_line n y start) f e r =
    (start_there spot n y start r e, emits y (kinds_in spot.here.scope) (allowed start (may_start spot n y)) f e)
at_form spot (print_line n) f e r = tt

spots_formed : (earlier entries : List Entry) → EntriesFormed entries → AllByRecursion (λ (spot : Spot). AreWellFormed (kinds_in spot.here.scope)) (spots_after earlier entries)
spots_formed earlier [] w = tt
spots_formed earlier (e ∷ es) w = (formed_kinds e.scope w.0, spots_formed (earlier ++ e ∷ []) es w.1)

pub kinds_in_scope_are_well_formed : KindsInScopeAreWellFormed
kinds_in_scope_are_well_formed text p spelled = spots_formed [] (entries_of p) (scopes_formed spelled.nests (programs_are_well_formed text p spelled))

all_three : {X : Type 0} (P Q R S : X → Type 0) → ((x : X) → P x → Q x → R x → S x) → (xs : List X) → AllByRecursion P xs → AllByRecursion Q xs → AllByRecursion R xs → AllByRecursion S xs
all_three P Q R S h [] p q r = tt
all_three P Q R S h (x ∷ xs) p q r = (h x p.0 q.0 r.0, all_three P Q R S h xs p.1 q.1 r.1)

pub legal_inputs_fit : LegalInputsFit
legal_inputs_fit text p spelled legal =
    all_three (λ spot. AreWellFormed (kinds_in spot.here.scope)) (λ spot. keeps_kinds spot spot.here.says ≡ true) (KeepsRules (outline_of p) all_rules)
    (λ spot. InputsFit (kinds_in spot.here.scope) spot.here.says)
    (λ spot f e r. at_form spot spot.here.says f e r.1.1.1.1.1.1.1.0)
    (spots_of p) (kinds_in_scope_are_well_formed text p spelled) (legal_kinds p legal) (legal_keeps p legal)

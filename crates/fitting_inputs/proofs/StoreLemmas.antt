-- Names that are bound to values that fit their kinds: where a name is bound, where a store keeps its names, and in the store in
-- which a loop begins.
use Rattle.std.proofs.Common.{◌≡◌, ◌≢◌, ℕ, Bool, true, false, cond, List, [], ◌∷◌, map, Option, Some, None, refl, ap, sym, ◌∙◌, subst, ℤ}
use Rattle.std.specs.List.{AllByRecursion}
use Rattle.std.specs.Option.{option_and_then}
use Rattle.std.specs.Str.{bytes_eq}
use Rattle.std.specs.FinMap.{get, insert}
use Rattle.loop_data.specs.declared.value.Value.{Value}
use Rattle.loop_data.specs.declared.value.Value.TheVariants.{Int, Bool as Truth, Text}
use Rattle.loop_data.specs.declared.value.Value.TheOpen.{Value-F as v}
use Rattle.loop_data.specs.declared.value.ValueKind.{ValueKind}
use Rattle.loop_data.specs.declared.value.ValueKind.TheVariants as kind
use Rattle.loop_data.specs.declared.head.Binding.{Binding}
use Rattle.loop_values.specs.Bindings.{Bindings, place_name}
use Rattle.loop_values.specs.Fits.{Agree, fits, is_place_at}
use Rattle.loop_values.specs.Kinds.{Kinds, literal_kind}
use Rattle.loop_values.proofs.BindingLaws.{get-bound, get-other}
use Rattle.loop_values.proofs.EntryLemmas.{same_text}
use Rattle.loop_values.proofs.SoundLemmas.{fits-Bool, fits-Int, fits-Text}
use Rattle.tower_inputs.specs.Laws.{HasPlace}
use Rattle.legality_rules.specs.declared.scope.Known.{Known}
use Rattle.legality_rules.specs.declared.scope.Sort.{Sort}
use Rattle.legality_rules.specs.Scopes.{Scope, found, kinds_in, known_as, look_up}
use Rattle.loop_meaning.specs.Stores.{keeping, with_found, with_literals}
use Rattle.carries_nothing.proofs.SameNames.{get_inserted}
use Rattle.carries_nothing.proofs.SameSteps.{found_gives, or_kept}
use Rattle.fitting_inputs.specs.Fitting.{FitScope}
use Rattle.fitting_inputs.proofs.FreshNames.{AreTold, IsTold}

-- ---- names bound to what fits

-- a value that fits the kind is found
abbrev pub HasFit : ValueKind → Option Value → Type 0
HasFit x o = (v : Value) × (o ≡ Some v) × (fits x v ≡ true)

-- the name is bound to a value that fits its kind, where it has one
pub record IsBound (env : Bindings) (known : Known) : Type 0 where
  pub fit : (x : ValueKind) → known.kind ≡ Some x → HasFit x (get env known.name)

abbrev pub AreBound : Bindings → Scope → Type 0
AreBound env some = AllByRecursion (IsBound env) some

bound_at : (scope : Scope) (env : Bindings) → AreBound env scope → (q : List ℕ) (x : ValueKind) → kinds_in scope q ≡ Some x → HasFit x (get env q)
bound_at [] env h q x is = absurd (cc)
bound_at (known ∷ scope) env h q x is = first (bytes_eq q known.name) refl is (bound_at scope env h.1 q x)
  where
    first : (b : Bool) → bytes_eq q known.name ≡ b → option_and_then (λ (k : Known). k.kind) (cond b (Some known) (look_up scope q)) ≡ Some x →
        (kinds_in scope q ≡ Some x → HasFit x (get env q)) → HasFit x (get env q)
    first true same e later = subst (λ n. HasFit x (get env n)) (sym (same_text q known.name same)) (h.0.fit x e)
    first false same e later = later e

-- where all names in scope are bound so, they fit the scope
pub bound_fit : (scope : Scope) (env : Bindings) → AreBound env scope → FitScope scope env
bound_fit scope env h = record { values = λ q x is. bound_at scope env h q x is }

-- and where names fit kinds, those that are told of are bound so
pub fit_bound : (kinds : Kinds) (env : Bindings) (some : Scope) → AreTold kinds some → Agree kinds (get env) → AreBound env some
fit_bound kinds env [] told agree = tt
fit_bound kinds env (known ∷ some) told agree =
    (record { fit = λ x is. agree.values known.name x (told.0.kind ∙ is) }, fit_bound kinds env some told.1 agree)

-- ---- a name is bound

-- names that are told of stay bound where one of them is bound to what fits it
stay_bound : (kinds : Kinds) (env : Bindings) (known : Known) (v : Value) (some : Scope) → IsTold kinds known →
    ((x : ValueKind) → known.kind ≡ Some x → fits x v ≡ true) → AreTold kinds some → AreBound env some → AreBound (insert env known.name v) some
stay_bound kinds env known v [] here fit told h = tt
stay_bound kinds env known v (other ∷ some) here fit told h = (
  record {
    fit = λ x is. subst (HasFit x) (sym (get_inserted env known.name other.name v)) (first x is (bytes_eq other.name known.name) refl);
  },
  stay_bound kinds env known v some here fit told.1 h.1,
)
  where
    first : (x : ValueKind) → other.kind ≡ Some x → (b : Bool) → bytes_eq other.name known.name ≡ b → HasFit x (cond b (Some v) (get env other.name))
    first x is true same =
        let one : known.kind ≡ Some x = sym here.kind ∙ ap kinds (sym (same_text other.name known.name same)) ∙ told.0.kind ∙ is in
        (v, refl, fit x one)
    first x is false same = h.0.fit x is

-- one name more is bound
pub one_bound : (kinds : Kinds) (env : Bindings) (known : Known) (v : Value) (some : Scope) → IsTold kinds known →
    ((x : ValueKind) → known.kind ≡ Some x → fits x v ≡ true) → AreTold kinds some → AreBound env some → AreBound (insert env known.name v) (known ∷ some)
one_bound kinds env known v some here fit told h =
    (record { fit = λ x is. (v, get-bound env known.name v, fit x is) }, stay_bound kinds env known v some here fit told h)

-- binding `place` changes none of them
pub place_bound : (kinds : Kinds) (env : Bindings) (v : Value) (some : Scope) → AreTold kinds some → AreBound env some → AreBound (insert env place_name v) some
place_bound kinds env v [] told h = tt
place_bound kinds env v (known ∷ some) told h = (
  record { fit = λ x is. subst (HasFit x) (sym (get-other env place_name known.name v told.0.apart)) (h.0.fit x is) },
  place_bound kinds env v some told.1 h.1,
)

-- `place` keeps its value where another name is bound
pub placed_still : (env : Bindings) (n : List ℕ) (v : Value) → n ≢ place_name → HasPlace (get env) → HasPlace (get (insert env n v))
placed_still env n v ne h = record { place = h.place; is = get-other env n place_name v (λ same. ne (sym same)) ∙ h.is; fit = h.fit }

-- ---- names that are kept

-- what holds of a name's value before and after holds of the value that is kept
kept_one : (P : Option Value → Type 0) (ms : List (List ℕ)) (n : List ℕ) (before after : Bindings) →
    P (get before n) → P (get after n) → P (get (keeping ms before after) n)
kept_one P [] n before after p q = p
kept_one P (m ∷ ms) n before after p q =
    kept_one P ms n (with_found before m (get after m)) after (subst P (sym (found_gives m n (get after m) before)) (first (bytes_eq n m) refl)) q
  where
    or_before : (o : Option Value) → P o → P (or_kept o (get before n))
    or_before (Some v) h = h
    or_before None h = p

    first : (b : Bool) → bytes_eq n m ≡ b → P (cond b (or_kept (get after m) (get before n)) (get before n))
    first true same = or_before (get after m) (subst (λ w. P (get after w)) (same_text n m same) q)
    first false same = p

pub keeping_bound : (ms : List (List ℕ)) (before after : Bindings) (some : Scope) → AreBound before some → AreBound after some → AreBound (keeping ms before after) some
keeping_bound ms before after [] b a = tt
keeping_bound ms before after (known ∷ some) b a = (
  record { fit = λ x is. kept_one (HasFit x) ms known.name before after (b.0.fit x is) (a.0.fit x is) },
  keeping_bound ms before after some b.1 a.1,
)

abbrev IsPlace : Option Value → Type 0
IsPlace o = (place : ℤ) × (o ≡ Some (Int place)) × (is_place_at (v.Int place) ≡ true)

pub keeping_placed : (ms : List (List ℕ)) (before after : Bindings) → HasPlace (get before) → HasPlace (get after) → HasPlace (get (keeping ms before after))
keeping_placed ms before after b a =
    let kept : IsPlace (get (keeping ms before after) place_name) = kept_one IsPlace ms place_name before after (b.place, b.is, b.fit) (a.place, a.is, a.fit) in
    record { place = kept.0; is = kept.1; fit = kept.2 }

-- ---- literals

pub some_is : (x y : ValueKind) → Some x ≡ Some y → x ≡ y
some_is x y e = cc

literal_fits : (v : Value) (x : ValueKind) → found (literal_kind v) ≡ Some x → fits x v ≡ true
literal_fits (Int n) x is = subst (λ y. fits y (Int n) ≡ true) (some_is kind.Int x is) (fits-Int n)
literal_fits (Truth b) x is = subst (λ y. fits y (Truth b) ≡ true) (some_is kind.Bool x is) (fits-Bool b)
literal_fits (Text t) x is = subst (λ y. fits y (Text t) ≡ true) (some_is kind.Text x is) (fits-Text t)
literal_fits _ x is = absurd (cc)

-- what a `var` or `@init` line brings into scope
abbrev pub literal_known : Sort → Binding → Known
literal_known sort b = known_as sort b.name (found (literal_kind b.value))

-- the names of such lines are bound to values that fit, and others stay so
pub literals_bound : (kinds : Kinds) (sort : Sort) (bs : List Binding) (env : Bindings) (some : Scope) → AreTold kinds (map (literal_known sort) bs) → AreTold kinds some →
    AreBound env some → AreBound (with_literals env bs) some × AreBound (with_literals env bs) (map (literal_known sort) bs)
literals_bound kinds sort [] env some told others h = (h, tt)
literals_bound kinds sort (b ∷ bs) env some told others h =
    let known : Known = literal_known sort b in
    let now : AreBound (insert env b.name b.value) (known ∷ some) = one_bound kinds env known b.value some told.0 (λ x is. literal_fits b.value x is) others h in
    let done = literals_bound kinds sort bs (insert env b.name b.value) (known ∷ some) told.1 (told.0, others) now in
    (done.0.1, (done.0.0, done.1))

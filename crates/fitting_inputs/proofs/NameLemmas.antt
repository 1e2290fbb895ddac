-- What binding names does to a scope and to the values of its names.
use Rattle.std.proofs.Common.{◌≡◌, ℕ, Bool, true, false, cond, List, [], ◌∷◌, ◌++◌, map, Option, Some, None, refl, ap, sym, ◌∙◌, subst, rules}
use Rattle.std.specs.Prelude.{not, ◌&&◌, ◌||◌, if◌then◌else◌, is_some}
use Rattle.std.specs.FinMap.{get, insert}
use Rattle.std.specs.Option.{option_and_then}
use Rattle.std.specs.Str.{bytes_eq}
use Rattle.std.proofs.lemmas.Bool.{and_parts}
use Rattle.std.proofs.lemmas.List.Folds.{list_any-append}
use Rattle.loop_data.specs.ValueParts.{parts_of as value_parts}
use Rattle.loop_data.specs.declared.value.Value.{Value, the_lemmas as value_lemmas}
use Rattle.loop_data.specs.declared.value.Value.TheVariants.{Tuple}
use Rattle.loop_data.specs.declared.value.ValueKind.{ValueKind, out-ValueKind, roll-ValueKind}
use Rattle.loop_data.specs.declared.value.ValueKind.TheOpen.{ValueKind-F, ValueKind-F as k}
use Rattle.loop_data.specs.declared.value.ValueKind.TheVariants as kind
use Rattle.loop_values.specs.Bindings.{Bindings, Names, place_name}
use Rattle.loop_values.specs.Fits.{Agree, all_fit, fits}
use Rattle.loop_values.specs.Kinds.{Kinds}
use Rattle.loop_values.specs.Laws.{IsFittingTuple}
use Rattle.loop_values.specs.NamesIn.{PlaceIsBound}
use Rattle.loop_values.proofs.EntryLemmas.{same_self, same_text}
use Rattle.loop_values.proofs.PlainLemmas.{tuple_fits}
use Rattle.loop_values.proofs.SoundLemmas.{rolled}
use Rattle.tower_inputs.specs.Laws.{HasPlace}
use Rattle.legality_rules.specs.declared.scope.Known.{Known}
use Rattle.legality_rules.specs.declared.scope.Sort.{Sort}
use Rattle.legality_rules.specs.Rules.{repeated}
use Rattle.legality_rules.specs.Scopes.{Scope, fits_pattern, is_in, is_known, kinds_in, known_as, look_up, one_by_one, parts_at, pattern_known, pattern_parts}
use Rattle.loop_meaning.specs.Statements.{with_parts, with_pattern}
use Rattle.carries_nothing.proofs.SameNames.{first_false, get_inserted, second_false}
use Rattle.fitting_inputs.specs.Fitting.{AreFresh, Within, are_new}

-- ---- names in scope

abbrev kind_at : Option Known → Option ValueKind
kind_at x = option_and_then (λ (known : Known). known.kind) x

has_kind : (known : Option Known) (x : ValueKind) → kind_at known ≡ Some x → is_some known ≡ true
has_kind (Some known) x e = refl
has_kind None x e = absurd (cc)

-- a name that has a kind in scope is known there
pub kinds_known : (scope : Scope) (n : List ℕ) (x : ValueKind) → kinds_in scope n ≡ Some x → is_known scope n ≡ true
kinds_known scope n x e = has_kind (look_up scope n) x e

in_front : (b : Bool) (known : Known) (some more : Option Known) (x : ValueKind) → (kind_at some ≡ Some x → kind_at more ≡ Some x) →
    kind_at (cond b (Some known) some) ≡ Some x → kind_at (cond b (Some known) more) ≡ Some x
in_front true known some more x h e = e
in_front false known some more x h e = h e

-- a name that has a kind in scope has it too where more names are in scope behind
pub kinds_stay : (scope more : Scope) → Within scope (scope ++ more)
kinds_stay [] more n x e = absurd (cc)
kinds_stay (known ∷ scope) more n x e = in_front (bytes_eq n known.name) known (look_up scope n) (look_up (scope ++ more) n) x (kinds_stay scope more n x) e

-- and what has a kind there has it in front or behind
kind_in_either : (scope more : Scope) (n : List ℕ) (x : ValueKind) (P : Type 0) → (kinds_in scope n ≡ Some x → P) → (kinds_in more n ≡ Some x → P) → kinds_in (scope ++ more) n ≡ Some x → P
kind_in_either [] more n x P front behind e = behind e
kind_in_either (known ∷ scope) more n x P front behind e = at (bytes_eq n known.name) front (λ f. kind_in_either scope more n x P f behind) e
  where
    at : (b : Bool) → (kind_at (cond b (Some known) (look_up scope n)) ≡ Some x → P) → ((kinds_in scope n ≡ Some x → P) → kinds_in (scope ++ more) n ≡ Some x → P) →
        kind_at (cond b (Some known) (look_up (scope ++ more) n)) ≡ Some x → P
    at true f rest e = f e
    at false f rest e = rest f e

-- ---- names that are bound to values that fit

abbrev FitsAs : Names → List ℕ → ValueKind → Type 0
FitsAs env n x = (v : Value) × (env n ≡ Some v) × (fits x v ≡ true)

-- names in scope and more behind them
pub agree_joined : (scope more : Scope) (env : Names) → Agree (kinds_in scope) env → Agree (kinds_in more) env → Agree (kinds_in (scope ++ more)) env
agree_joined scope more env front behind = record { values = λ n x e. kind_in_either scope more n x (FitsAs env n x) (front.values n x) (behind.values n x) e }

-- fewer names
pub agree_within : (some all : Scope) (env : Names) → Within some all → Agree (kinds_in all) env → Agree (kinds_in some) env
agree_within some all env within a = record { values = λ n x e. a.values n x (within n x e) }

-- names whose values stay
pub agree_kept : (kinds : Kinds) (env later : Names) → ((n : List ℕ) (x : ValueKind) → kinds n ≡ Some x → later n ≡ env n) → Agree kinds env → Agree kinds later
agree_kept kinds env later same a = record { values = λ n x e. let h = a.values n x e in (h.0, same n x e ∙ h.1, h.2) }

some_is : (x y : ValueKind) → Some x ≡ Some y → x ≡ y
some_is x y e = cc

-- a name is bound to a value that fits its kind, if it has one
pub set_agrees : (kinds : Kinds) (env : Bindings) (n : List ℕ) (v : Value) → ((x : ValueKind) → kinds n ≡ Some x → fits x v ≡ true) → Agree kinds (get env) → Agree kinds (get (insert env n v))
set_agrees kinds env n v fit a = record { values = λ m x e. at m x e (bytes_eq m n) refl }
  where
    set_at : (m : List ℕ) (x : ValueKind) (b : Bool) → bytes_eq m n ≡ b → FitsAs (λ _. cond b (Some v) (get env m)) m x → FitsAs (get (insert env n v)) m x
    set_at m x b is h = (h.0, get_inserted env n m v ∙ ap (λ c. cond c (Some v) (get env m)) is ∙ h.1, h.2)

    at : (m : List ℕ) (x : ValueKind) → kinds m ≡ Some x → (b : Bool) → bytes_eq m n ≡ b → FitsAs (get (insert env n v)) m x
    at m x e true is = set_at m x true is (v, refl, fit x (ap kinds (sym (same_text m n is)) ∙ e))
    at m x e false is = set_at m x false is (a.values m x e)

-- one more name in front
first_agrees : (sort : Sort) (n : List ℕ) (x : ValueKind) (v : Value) (scope : Scope) (env : Names) → env n ≡ Some v → fits x v ≡ true → Agree (kinds_in scope) env →
    Agree (kinds_in (known_as sort n (Some x) ∷ scope)) env
first_agrees sort n x v scope env is fit a = record { values = λ m y e. at m y (bytes_eq m n) refl e }
  where
    at : (m : List ℕ) (y : ValueKind) (b : Bool) → bytes_eq m n ≡ b → kind_at (cond b (Some (known_as sort n (Some x))) (look_up scope m)) ≡ Some y → FitsAs env m y
    at m y true same e = (v, ap env (same_text m n same) ∙ is, subst (λ z. fits z v ≡ true) (some_is x y e) fit)
    at m y false same e = a.values m y e

pub none_agree : (env : Names) → Agree (kinds_in []) env
none_agree env = record { values = λ n x e. absurd (cc) }

-- names without kinds
unkinded : (sort : Sort) (ns : List (List ℕ)) (n : List ℕ) (x : ValueKind) → kinds_in (map (λ m. known_as sort m None) ns) n ≡ Some x → ⊥
unkinded sort [] n x e = absurd (cc)
unkinded sort (m ∷ ms) n x e = at (bytes_eq n m) (unkinded sort ms n x) e
  where
    at : (b : Bool) → (kinds_in (map (λ m. known_as sort m None) ms) n ≡ Some x → ⊥) → kind_at (cond b (Some (known_as sort m None)) (look_up (map (λ m. known_as sort m None) ms) n)) ≡ Some x → ⊥
    at true rest e = absurd (cc)
    at false rest e = rest e

kindless_agree : (sort : Sort) (ns : List (List ℕ)) (env : Names) → Agree (kinds_in (one_by_one sort ns [])) env
kindless_agree sort [] env = none_agree env
kindless_agree sort (n ∷ ns) env = record { values = λ m x e. absurd (unkinded sort (n ∷ ns) m x e) }

-- ---- `place`

-- `place` is bound to a place where it keeps its value
pub place_kept : (env later : Names) → later place_name ≡ env place_name → HasPlace env → HasPlace later
place_kept env later same p = record { place = p.place; is = same ∙ p.is; fit = p.fit }

-- and then it is bound wherever it is asked for
pub placed_everywhere : (env : Names) (ns : List (List ℕ)) → HasPlace env → PlaceIsBound env ns
placed_everywhere env [] p = tt
placed_everywhere env (n ∷ ns) p = ((λ e. (p.place, ap env e ∙ p.is)), placed_everywhere env ns p)

-- ---- new names

isnt_and_is : (b : Bool) → not b ≡ true → b ≡ true → ⊥
isnt_and_is true e is = absurd (cc)
isnt_and_is false e is = absurd (cc)

-- what is known in scope is none of the new names
pub known_apart : (scope : Scope) (names : List (List ℕ)) (n : List ℕ) → are_new scope names ≡ true → is_known scope n ≡ true → is_in names n ≡ false
known_apart scope [] n new known = refl
known_apart scope (m ∷ ms) n new known =
    let p = and_parts (not (is_known scope m) && not (bytes_eq m place_name)) (are_new scope ms) new in
    let q = and_parts (not (is_known scope m)) (not (bytes_eq m place_name)) p.0 in
    ap (λ b. b || is_in ms n) (apart (bytes_eq n m) refl q.0) ∙ known_apart scope ms n p.1 known
  where
    apart : (b : Bool) → bytes_eq n m ≡ b → not (is_known scope m) ≡ true → b ≡ false
    apart false is e = refl
    apart true is e = absurd (isnt_and_is (is_known scope m) e (subst (λ z. is_known scope z ≡ true) (same_text n m is) known))

-- nor is `place`
pub place_apart : (scope : Scope) (names : List (List ℕ)) → are_new scope names ≡ true → is_in names place_name ≡ false
place_apart scope [] new = refl
place_apart scope (m ∷ ms) new =
    let p = and_parts (not (is_known scope m) && not (bytes_eq m place_name)) (are_new scope ms) new in
    let q = and_parts (not (is_known scope m)) (not (bytes_eq m place_name)) p.0 in
    ap (λ b. b || is_in ms place_name) (apart (bytes_eq place_name m) refl q.1) ∙ place_apart scope ms p.1
  where
    apart : (b : Bool) → bytes_eq place_name m ≡ b → not (bytes_eq m place_name) ≡ true → b ≡ false
    apart false is e = refl
    apart true is e = absurd (isnt_and_is (bytes_eq m place_name) e (subst (λ z. bytes_eq z place_name ≡ true) (same_text place_name m is) (same_self place_name)))

-- no two of the names are one
abbrev AreApart : List (List ℕ) → Type 0
AreApart [] = Unit {0}
AreApart (n ∷ ns) = (is_in ns n ≡ false) × AreApart ns

left_empty : {X : Type 0} (xs ys : List X) → xs ++ ys ≡ [] → xs ≡ []
left_empty [] ys e = refl
left_empty (x ∷ xs) ys e = absurd (cc)

right_empty : {X : Type 0} (xs ys : List X) → xs ++ ys ≡ [] → ys ≡ []
right_empty [] ys e = e
right_empty (x ∷ xs) ys e = absurd (cc)

-- a name that stands before isn't met again
met_once : (before ns : List (List ℕ)) (n : List ℕ) → repeated before ns ≡ [] → is_in before n ≡ true → is_in ns n ≡ false
met_once before [] n e h = refl
met_once before (m ∷ ms) n e h =
    ap (λ z. z || is_in ms n) (apart (bytes_eq n m) refl)
    ∙ met_once (before ++ m ∷ []) ms n (right_empty (if is_in before m then m ∷ [] else []) (repeated (before ++ m ∷ []) ms) e)
    (list_any-append (bytes_eq n) before (m ∷ []) ∙ ap (λ z. z || is_in (m ∷ []) n) h)
  where
    apart : (b : Bool) → bytes_eq n m ≡ b → b ≡ false
    apart false is = refl
    apart true is =
        let same : is_in before m ≡ true = subst (λ z. is_in before z ≡ true) (same_text n m is) h in
        let one : (if is_in before m then m ∷ [] else []) ≡ [] = left_empty (if is_in before m then m ∷ [] else []) (repeated (before ++ m ∷ []) ms) e in
        absurd (let two : (if true then m ∷ [] else []) ≡ [] = sym (ap (λ z. if z then m ∷ [] else []) same) ∙ one in cc)

or_true : (b : Bool) → (b || (true || false)) ≡ true
or_true true = refl
or_true false = refl

-- names that are repeated nowhere are apart
once_apart : (before ns : List (List ℕ)) → repeated before ns ≡ [] → AreApart ns
once_apart before [] e = tt
once_apart before (n ∷ ns) e =
    let rest : repeated (before ++ n ∷ []) ns ≡ [] = right_empty (if is_in before n then n ∷ [] else []) (repeated (before ++ n ∷ []) ns) e in
    let here : is_in (before ++ n ∷ []) n ≡ true = list_any-append (bytes_eq n) before (n ∷ []) ∙ ap (λ z. is_in before n || (z || false)) (same_self n) ∙ or_true (is_in before n) in
    (met_once (before ++ n ∷ []) ns n rest here, once_apart (before ++ n ∷ []) ns rest)

-- ---- patterns

-- another name keeps its value
set_leaves : (env : Bindings) (m n : List ℕ) (v : Value) → bytes_eq n m ≡ false → get (insert env m v) n ≡ get env n
set_leaves env m n v isnt = get_inserted env m n v ∙ ap (λ b. cond b (Some v) (get env n)) isnt

-- so does one that is none of the names of a pattern
parts_leave : (env : Bindings) (ns : List (List ℕ)) (vs : List Value) (n : List ℕ) → is_in ns n ≡ false → get (with_parts env ns vs) n ≡ get env n
parts_leave env [] vs n h = refl
parts_leave env (m ∷ ms) [] n h = refl
parts_leave env (m ∷ ms) (v ∷ vs) n h =
    parts_leave (insert env m v) ms vs n (second_false (bytes_eq n m) (is_in ms n) h) ∙ set_leaves env m n v (first_false (bytes_eq n m) (is_in ms n) h)

pattern_leaves : (env : Bindings) (ns : List (List ℕ)) (v : Value) (n : List ℕ) → is_in ns n ≡ false → get (with_pattern env ns v) n ≡ get env n
pattern_leaves env [] v n h = refl
pattern_leaves env (m ∷ []) v n h = set_leaves env m n v (first_false (bytes_eq n m) false h)
pattern_leaves env (m ∷ l ∷ ms) v n h = parts_leave env (m ∷ l ∷ ms) (value_parts v) n h

-- the names in scope keep their values where new names are bound
pub others_agree : (some scope : Scope) (env : Bindings) (ns : List (List ℕ)) (v : Value) → Within some scope → AreFresh scope ns → Agree (kinds_in some) (get env) →
    Agree (kinds_in some) (get (with_pattern env ns v))
others_agree some scope env ns v within fresh a =
    agree_kept (kinds_in some) (get env) (get (with_pattern env ns v))
    (λ n x e. pattern_leaves env ns v n (known_apart scope ns n fresh.new (kinds_known scope n x (within n x e)))) a

-- and so does `place`
pub place_stays : (scope : Scope) (env : Bindings) (ns : List (List ℕ)) (v : Value) → AreFresh scope ns → HasPlace (get env) → HasPlace (get (with_pattern env ns v))
place_stays scope env ns v fresh p = place_kept (get env) (get (with_pattern env ns v)) (pattern_leaves env ns v place_name (place_apart scope ns fresh.new)) p

-- names bound to the parts of a tuple, whose values fit these kinds one by one
parts_agree : (sort : Sort) (ns : List (List ℕ)) (xs : List ValueKind) (vs : List Value) (env : Bindings) → AreApart ns → all_fit (map fits xs) vs ≡ true →
    Agree (kinds_in (one_by_one sort ns xs)) (get (with_parts env ns vs))
parts_agree sort [] [] vs env apart fit = none_agree (get env)
parts_agree sort [] (x ∷ xs) vs env apart fit = none_agree (get env)
parts_agree sort (n ∷ ns) [] vs env apart fit = kindless_agree sort (n ∷ ns) (get (with_parts env (n ∷ ns) vs))
parts_agree sort (n ∷ ns) (x ∷ xs) [] env apart fit = absurd (cc)
parts_agree sort (n ∷ ns) (x ∷ xs) (v ∷ vs) env apart fit =
    let p = and_parts (fits x v) (all_fit (map fits xs) vs) fit in
    let later : Bindings = with_parts (insert env n v) ns vs in
    let here : get later n ≡ Some v =
    parts_leave (insert env n v) ns vs n apart.0 ∙ get_inserted env n n v ∙ ap (λ b. cond b (Some v) (get env n)) (same_self n) in
    first_agrees sort n x v (one_by_one sort ns xs) (get later) here p.0 (parts_agree sort ns xs vs (insert env n v) apart.1 p.1)

tuple_parts : (vs : List Value) → value_parts (Tuple vs) ≡ vs
tuple_parts vs = search (rules, value_lemmas)

-- the names of a tuple's parts; where the kind isn't a tuple none has a kind
several_agree : (sort : Sort) (ns : List (List ℕ)) (z : ValueKind-F ValueKind) (x : ValueKind) (v : Value) (env : Bindings) → AreApart ns → out-ValueKind x ≡ z → fits x v ≡ true →
    Agree (kinds_in (one_by_one sort ns (parts_at z))) (get (with_parts env ns (value_parts v)))
several_agree sort ns (k.Tuple xs) x v env apart is fit =
    let same : x ≡ kind.Tuple xs = sym (rolled x) ∙ ap roll-ValueKind is ∙ kind.rolls-Tuple xs in
    let t : IsFittingTuple xs v = tuple_fits xs v (subst (λ y. fits y v ≡ true) same fit) in
    subst (λ vs. Agree (kinds_in (one_by_one sort ns xs)) (get (with_parts env ns vs))) (sym (ap value_parts t.is ∙ tuple_parts t.parts)) (parts_agree sort ns xs t.parts env apart t.fit)
several_agree sort ns _ x v env apart is fit = kindless_agree sort ns (get (with_parts env ns (value_parts v)))

taken : (sort : Sort) (ns : List (List ℕ)) (xs : List ValueKind) (b : Bool) (env : Names) → b ≡ true → Agree (kinds_in (one_by_one sort ns xs)) env →
    Agree (kinds_in (one_by_one sort ns (if b then xs else []))) env
taken sort ns xs true env e a = a
taken sort ns xs false env e a = absurd (cc)

-- a value that fits a kind which the pattern takes, bound to the names of the pattern
pub pattern_agrees : (sort : Sort) (ns : List (List ℕ)) (x : ValueKind) (v : Value) (env : Bindings) → repeated [] ns ≡ [] → fits_pattern ns x ≡ true → fits x v ≡ true →
    Agree (kinds_in (pattern_known sort ns (Some x))) (get (with_pattern env ns v))
pattern_agrees sort ns x v env once takes fit = taken sort ns (pattern_parts ns x) (fits_pattern ns x) (get (with_pattern env ns v)) takes (at ns (once_apart [] ns once))
  where
    at : (ns : List (List ℕ)) → AreApart ns → Agree (kinds_in (one_by_one sort ns (pattern_parts ns x))) (get (with_pattern env ns v))
    at [] apart = several_agree sort [] (out-ValueKind x) x v env tt refl fit
    at (n ∷ []) apart = first_agrees sort n x v [] (get (insert env n v)) (get_inserted env n n v ∙ ap (λ b. cond b (Some v) (get env n)) (same_self n)) fit (none_agree (get (insert env n v)))
    at (n ∷ m ∷ ns) apart = several_agree sort (n ∷ m ∷ ns) (out-ValueKind x) x v env apart refl fit

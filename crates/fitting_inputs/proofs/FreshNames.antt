-- Names that come into scope once, and none of them as `place`: each keeps its kind, whatever comes into scope after it.
use Rattle.std.proofs.Common.{◌≡◌, ◌≢◌, ℕ, Bool, true, false, cond, List, [], ◌∷◌, ◌++◌, map, Option, Some, None, refl, ap, sym, ◌∙◌, subst, append_assoc, append-nil}
use Rattle.std.specs.Prelude.{not, ◌&&◌, ◌||◌, if◌then◌else◌, is_some}
use Rattle.std.specs.List.{AllByRecursion}
use Rattle.std.specs.Option.{option_and_then}
use Rattle.std.specs.Str.{bytes_eq}
use Rattle.std.proofs.lemmas.Bool.{and_parts}
use Rattle.std.proofs.lemmas.List.Folds.{list_any-append}
use Rattle.loop_data.specs.declared.value.ValueKind.{ValueKind}
use Rattle.loop_values.specs.Bindings.{place_name}
use Rattle.loop_values.specs.Kinds.{Kinds}
use Rattle.loop_values.proofs.EntryLemmas.{same_self}
use Rattle.legality_rules.specs.declared.scope.Known.{Known}
use Rattle.legality_rules.specs.declared.scope.Sort.{Sort}
use Rattle.legality_rules.specs.Rules.{repeated}
use Rattle.legality_rules.specs.Scopes.{Scope, is_in, is_known, kinds_in, known_as, look_up, one_by_one}
use Rattle.legality_rules.proofs.FirstLemmas.{not_true}
use Rattle.fitting_inputs.specs.Fitting.{AreFresh, are_new}

abbrev Name : Type 0
Name = List ℕ

-- ---- lists

pub all_front : {X : Type 0} (P : X → Type 0) (xs ys : List X) → AllByRecursion P (xs ++ ys) → AllByRecursion P xs
all_front P [] ys h = tt
all_front P (x ∷ xs) ys h = (h.0, all_front P xs ys h.1)

pub all_back : {X : Type 0} (P : X → Type 0) (xs ys : List X) → AllByRecursion P (xs ++ ys) → AllByRecursion P ys
all_back P [] ys h = h
all_back P (x ∷ xs) ys h = all_back P xs ys h.1

pub all_both : {X : Type 0} (P : X → Type 0) (xs ys : List X) → AllByRecursion P xs → AllByRecursion P ys → AllByRecursion P (xs ++ ys)
all_both P [] ys h k = k
all_both P (x ∷ xs) ys h k = (h.0, all_both P xs ys h.1 k)

-- ---- names in scope, and then others

abbrev or_later : Option Known → Option Known → Option Known
or_later (Some known) later = Some known
or_later None later = later

look_joined : (scope more : Scope) (n : Name) → look_up (scope ++ more) n ≡ or_later (look_up scope n) (look_up more n)
look_joined [] more n = refl
look_joined (known ∷ scope) more n = first (bytes_eq n known.name) (look_joined scope more n)
  where
    first : (b : Bool) → look_up (scope ++ more) n ≡ or_later (look_up scope n) (look_up more n) →
        cond b (Some known) (look_up (scope ++ more) n) ≡ or_later (cond b (Some known) (look_up scope n)) (look_up more n)
    first true e = refl
    first false e = e

-- a name that isn't in scope has the kind that what follows gives it
kinds_later : (scope more : Scope) (n : Name) → is_known scope n ≡ false → kinds_in (scope ++ more) n ≡ kinds_in more n
kinds_later scope more n isnt = ap (option_and_then (λ (known : Known). known.kind)) (look_joined scope more n) ∙ first (look_up scope n) isnt
  where
    first : (o : Option Known) → is_some o ≡ false → option_and_then (λ (known : Known). known.kind) (or_later o (look_up more n)) ≡ kinds_in more n
    first (Some known) e = absurd (cc)
    first None e = refl

-- the names of these
abbrev pub known_names : Scope → List Name
known_names scope = map (λ (known : Known). known.name) scope

-- one name more is in scope
one_more_known : (scope : Scope) (known : Known) (n : Name) → is_known (scope ++ known ∷ []) n ≡ (is_known scope n || bytes_eq n known.name)
one_more_known [] known n = first (bytes_eq n known.name)
  where
    first : (b : Bool) → is_some (cond b (Some known) None) ≡ b
    first true = refl
    first false = refl
one_more_known (here ∷ scope) known n = first (bytes_eq n here.name) (one_more_known scope known n)
  where
    first : (b : Bool) → is_known (scope ++ known ∷ []) n ≡ (is_known scope n || bytes_eq n known.name) →
        is_some (cond b (Some here) (look_up (scope ++ known ∷ []) n)) ≡ (is_some (cond b (Some here) (look_up scope n)) || bytes_eq n known.name)
    first true e = refl
    first false e = e

-- ---- one name

differ : (n m : Name) → bytes_eq n m ≡ false → n ≢ m
differ n m isnt is = absurd (let self : bytes_eq n m ≡ true = ap (bytes_eq n) (sym is) ∙ same_self n in cc)

-- a lone name that comes into scope
pub record IsNew (scope : Scope) (n : Name) : Type 0 where
  pub unknown : is_known scope n ≡ false
  pub apart : n ≢ place_name

pub lone_new : (scope : Scope) (n : Name) → AreFresh scope (n ∷ []) → IsNew scope n
lone_new scope n fresh =
    let both = and_parts (not (is_known scope n)) (not (bytes_eq n place_name)) (and_parts (not (is_known scope n) && not (bytes_eq n place_name)) true fresh.new).0 in
    record { unknown = not_true (is_known scope n) both.0; apart = differ n place_name (not_true (bytes_eq n place_name) both.1) }

-- ---- names that come into scope one after another

-- each of them is new where it comes into scope
abbrev pub ComeFresh : Scope → Scope → Type 0
ComeFresh scope [] = Unit {0}
ComeFresh scope (known ∷ more) = IsNew scope known.name × ComeFresh (scope ++ known ∷ []) more

-- some, and then others
pub fresh_joined : (scope some more : Scope) → ComeFresh scope some → ComeFresh (scope ++ some) more → ComeFresh scope (some ++ more)
fresh_joined scope [] more h k = subst (λ s. ComeFresh s more) (append-nil scope) k
fresh_joined scope (known ∷ some) more h k =
    (h.0, fresh_joined (scope ++ known ∷ []) some more h.1 (subst (λ s. ComeFresh s more) (sym (append_assoc scope (known ∷ []) some)) k))

-- the name has this kind, and isn't `place`
pub record IsTold (kinds : Kinds) (known : Known) : Type 0 where
  pub kind : kinds known.name ≡ known.kind
  pub apart : known.name ≢ place_name

-- what each of the names is told of
abbrev pub AreTold : Kinds → Scope → Type 0
AreTold kinds scope = AllByRecursion (IsTold kinds) scope

first_kind : (known : Known) (more : Scope) → kinds_in (known ∷ more) known.name ≡ known.kind
first_kind known more = ap (λ b. option_and_then (λ (k : Known). k.kind) (cond b (Some known) (look_up more known.name))) (same_self known.name)

-- names that came into scope once keep their kinds to the end
pub fresh_told : (scope some : Scope) → ComeFresh scope some → AreTold (kinds_in (scope ++ some)) some
fresh_told scope [] h = tt
fresh_told scope (known ∷ some) h = (
  record { kind = kinds_later scope (known ∷ some) known.name h.0.unknown ∙ first_kind known some; apart = h.0.apart },
  subst (λ s. AreTold (kinds_in s) some) (append_assoc scope (known ∷ []) some) (fresh_told (scope ++ known ∷ []) some h.1),
)

-- ---- the names of a pattern

pub pattern_names : (sort : Sort) (ns : List Name) (xs : List ValueKind) → known_names (one_by_one sort ns xs) ≡ ns
pattern_names sort [] [] = refl
pattern_names sort [] (x ∷ xs) = refl
pattern_names sort (n ∷ ns) [] = ap (λ ms. n ∷ ms) (same_names ns)
  where
    same_names : (ms : List Name) → known_names (map (λ m. known_as sort m None) ms) ≡ ms
    same_names [] = refl
    same_names (m ∷ ms) = ap (λ ns. m ∷ ns) (same_names ms)
pattern_names sort (n ∷ ns) (x ∷ xs) = ap (λ ms. n ∷ ms) (pattern_names sort ns xs)

-- the first of names that stand once is none of those before it, and the others stand once
once_more : (before ns : List Name) (n : Name) → repeated before (n ∷ ns) ≡ [] → (is_in before n ≡ false) × (repeated (before ++ n ∷ []) ns ≡ [])
once_more before ns n once = first (is_in before n) once
  where
    first : (b : Bool) → (if b then n ∷ [] else []) ++ repeated (before ++ n ∷ []) ns ≡ [] → (b ≡ false) × (repeated (before ++ n ∷ []) ns ≡ [])
    first true e = absurd (cc)
    first false e = (refl, e)

-- `now` has besides the names of the scope those before
fresh_from : (scope now : Scope) (before : List Name) (some : Scope) → ((n : Name) → is_known now n ≡ (is_known scope n || is_in before n)) →
    are_new scope (known_names some) ≡ true → repeated before (known_names some) ≡ [] → ComeFresh now some
fresh_from scope now before [] same new once = tt
fresh_from scope now before (known ∷ some) same new once =
    let n : Name = known.name in
    let parts = and_parts (not (is_known scope n) && not (bytes_eq n place_name)) (are_new scope (known_names some)) new in
    let here = and_parts (not (is_known scope n)) (not (bytes_eq n place_name)) parts.0 in
    let off = once_more before (known_names some) n once in (
      record {
        unknown = same n ∙ ap (λ b. b || is_in before n) (not_true (is_known scope n) here.0) ∙ off.0;
        apart = differ n place_name (not_true (bytes_eq n place_name) here.1);
      },
      fresh_from scope (now ++ known ∷ []) (before ++ n ∷ []) some
          (λ m. one_more_known now known m
          ∙ ap (λ b. b || bytes_eq m n) (same m)
          ∙ regrouped (is_known scope m) (is_in before m) (bytes_eq m n)
          ∙ ap (λ b. is_known scope m || b) (sym (list_any-append (bytes_eq m) before (n ∷ [])))) parts.1 off.1,
    )
  where
    regrouped : (a b c : Bool) → ((a || b) || c) ≡ (a || (b || (c || false)))
    regrouped true b c = refl
    regrouped false true c = refl
    regrouped false false true = refl
    regrouped false false false = refl

-- a line whose names are fresh brings them into scope one after another
pub names_fresh : (scope some : Scope) → AreFresh scope (known_names some) → ComeFresh scope some
names_fresh scope some fresh = fresh_from scope scope [] some (λ n. none (is_known scope n)) fresh.new fresh.once
  where
    none : (b : Bool) → b ≡ (b || false)
    none true = refl
    none false = refl

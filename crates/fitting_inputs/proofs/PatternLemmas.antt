-- The names of a pattern, bound to the parts of a value that fits the pattern's kind.
use Rattle.std.proofs.Common.{◌≡◌, ℕ, ◌<◌, true, List, [], ◌∷◌, length, map, Some, refl, ap, sym, ◌∙◌, subst, rules, arith}
use Rattle.std.specs.Prelude.{if◌then◌else◌}
use Rattle.std.specs.FinMap.{get, insert}
use Rattle.std.proofs.lemmas.Bool.{and_parts, eqb-true}
use Rattle.loop_data.specs.ValueParts.{parts_of}
use Rattle.loop_data.specs.declared.value.Value.{Value, the_lemmas as value_lemmas}
use Rattle.loop_data.specs.declared.value.Value.TheVariants as value
use Rattle.loop_data.specs.declared.value.ValueKind.{ValueKind, out-ValueKind, roll-ValueKind}
use Rattle.loop_data.specs.declared.value.ValueKind.TheVariants as kind
use Rattle.loop_data.specs.declared.value.ValueKind.TheOpen.{ValueKind-F, ValueKind-F as k}
use Rattle.loop_values.specs.Bindings.{Bindings}
use Rattle.loop_values.specs.Fits.{all_fit, fits}
use Rattle.loop_values.specs.Kinds.{Kinds}
use Rattle.loop_values.proofs.PlainLemmas.{tuple_fits}
use Rattle.loop_values.proofs.SoundLemmas.{rolled}
use Rattle.tower_inputs.specs.Laws.{HasPlace}
use Rattle.legality_rules.specs.declared.scope.Known.{Known}
use Rattle.legality_rules.specs.declared.scope.Sort.{Sort}
use Rattle.legality_rules.specs.Scopes.{Scope, fits_pattern, known_as, one_by_one, parts_at, parts_of as kind_parts, pattern_kinds, pattern_known, pattern_parts}
use Rattle.loop_meaning.specs.Statements.{with_parts, with_pattern}
use Rattle.fitting_inputs.proofs.FreshNames.{AreTold}
use Rattle.fitting_inputs.proofs.StoreLemmas.{AreBound, one_bound, placed_still, some_is}

abbrev Name : Type 0
Name = List ℕ

-- ---- the parts of a value that fits a tuple of kinds

parts_of-Tuple : (vs : List Value) → parts_of (value.Tuple vs) ≡ vs
parts_of-Tuple vs = search (rules, value_lemmas)

parts_fit_at : (z : ValueKind-F ValueKind) (x : ValueKind) (v : Value) → out-ValueKind x ≡ z → 0 < length (parts_at z) → fits x v ≡ true →
    all_fit (map fits (parts_at z)) (parts_of v) ≡ true
parts_fit_at (k.Tuple xs) x v is some fit =
    let same : x ≡ kind.Tuple xs = sym (rolled x) ∙ ap roll-ValueKind is ∙ kind.rolls-Tuple xs in
    let parts = tuple_fits xs v (subst (λ y. fits y v ≡ true) same fit) in
    subst (λ vs. all_fit (map fits xs) vs ≡ true) (sym (parts_of-Tuple parts.parts) ∙ ap parts_of (sym parts.is)) parts.fit
parts_fit_at k.Int x v is some fit = absurd (omega arith)
parts_fit_at k.Bool x v is some fit = absurd (omega arith)
parts_fit_at k.Text x v is some fit = absurd (omega arith)
parts_fit_at (k.Maybe y) x v is some fit = absurd (omega arith)

-- where a kind has parts, the parts of a value that fits it fit them one by one
parts_fit : (x : ValueKind) (v : Value) → 0 < length (kind_parts x) → fits x v ≡ true → all_fit (map fits (kind_parts x)) (parts_of v) ≡ true
parts_fit x v some fit = parts_fit_at (out-ValueKind x) x v refl some fit

-- ---- names and parts one by one

-- the names of `more` are bound to values that fit besides those of `some`, and `place` still to a place
pub record BoundWith (some more : Scope) (env : Bindings) : Type 0 where
  pub others : AreBound env some
  pub names : AreBound env more
  pub placed : HasPlace (get env)

parts_bound : (kinds : Kinds) (sort : Sort) (ns : List Name) (xs : List ValueKind) (vs : List Value) (env : Bindings) (some : Scope) →
    length xs ≡ length ns → all_fit (map fits xs) vs ≡ true → AreTold kinds (one_by_one sort ns xs) → AreTold kinds some →
    AreBound env some → HasPlace (get env) → BoundWith some (one_by_one sort ns xs) (with_parts env ns vs)
parts_bound kinds sort [] [] vs env some count fit told others h placed = record { others = h; names = tt; placed = placed }
parts_bound kinds sort [] (x ∷ xs) vs env some count fit told others h placed = absurd (omega arith)
parts_bound kinds sort (n ∷ ns) [] vs env some count fit told others h placed = absurd (omega arith)
parts_bound kinds sort (n ∷ ns) (x ∷ xs) [] env some count fit told others h placed = absurd (cc)
parts_bound kinds sort (n ∷ ns) (x ∷ xs) (v ∷ vs) env some count fit told others h placed =
    let known : Known = known_as sort n (Some x) in
    let both = and_parts (fits x v) (all_fit (map fits xs) vs) fit in
    let fewer : length xs ≡ length ns = omega arith in
    let now : AreBound (insert env n v) (known ∷ some) =
    one_bound kinds env known v some told.0 (λ y is. subst (λ z. fits z v ≡ true) (some_is x y is) both.0) others h in
    let done = parts_bound kinds sort ns xs vs (insert env n v) (known ∷ some) fewer both.1 told.1 (told.0, others) now (placed_still env n v told.0.apart placed) in
    record { others = done.others.1; names = (done.others.0, done.names); placed = done.placed }

-- ---- patterns

-- a pattern that takes a kind brings its names into scope with the kinds of the parts
known_parts : (sort : Sort) (ns : List Name) (x : ValueKind) → fits_pattern ns x ≡ true → pattern_known sort ns (Some x) ≡ one_by_one sort ns (pattern_parts ns x)
known_parts sort ns x takes = ap (λ b. one_by_one sort ns (if b then pattern_parts ns x else [])) takes

-- the names of a pattern that takes a kind are bound to values that fit by a value that fits the kind
pub pattern_bound : (kinds : Kinds) (sort : Sort) (ns : List Name) (x : ValueKind) (v : Value) (env : Bindings) (some : Scope) →
    fits_pattern ns x ≡ true → fits x v ≡ true → AreTold kinds (pattern_known sort ns (Some x)) → AreTold kinds some →
    AreBound env some → HasPlace (get env) → BoundWith some (pattern_known sort ns (Some x)) (with_pattern env ns v)
pattern_bound kinds sort (n ∷ []) x v env some takes fit told others h placed =
    let now = one_bound kinds env (known_as sort n (Some x)) v some told.0 (λ y is. subst (λ z. fits z v ≡ true) (some_is x y is) fit) others h in
    record { others = now.1; names = (now.0, tt); placed = placed_still env n v told.0.apart placed }
pattern_bound kinds sort [] x v env some takes fit told others h placed = record { others = h; names = none (pattern_kinds [] (Some x)); placed = placed }
  where
    none : (xs : List ValueKind) → AreBound env (one_by_one sort [] xs)
    none [] = tt
    none (x ∷ xs) = tt
pattern_bound kinds sort (n ∷ m ∷ ns) x v env some takes fit told others h placed =
    let count : length (kind_parts x) ≡ length (n ∷ m ∷ ns) = eqb-true (length (kind_parts x)) (length (n ∷ m ∷ ns)) takes in
    let known = known_parts sort (n ∷ m ∷ ns) x takes in
    subst (λ more. BoundWith some more (with_parts env (n ∷ m ∷ ns) (parts_of v))) (sym known)
    (parts_bound kinds sort (n ∷ m ∷ ns) (kind_parts x) (parts_of v) env some count (parts_fit x v (omega arith) fit)
    (subst (AreTold kinds) known told) others h placed)

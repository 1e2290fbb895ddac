-- The kinds of the bounds of the heads, and the state after the `for` line.
use Rattle.std.proofs.Common.{◌≡◌, ℕ, Bool, true, List, [], ◌∷◌, ◌++◌, Some, refl, sym, ◌∙◌, ap, subst, append_assoc}
use Rattle.std.specs.Prelude.{◌&&◌, filter, flat_map}
use Rattle.std.specs.FinMap.{get}
use Rattle.loop_data.specs.declared.value.ValueKind.TheVariants as kind
use Rattle.loop_data.specs.declared.expr.Expr.{Expr}
use Rattle.loop_data.specs.declared.head.Inner.{Inner}
use Rattle.loop_values.specs.Kinds.{Kinds, is_int, kind_of}
use Rattle.loop_values.specs.NamesIn.{SameAt, names_read}
use Rattle.loop_values.proofs.KindNames.{settled}
use Rattle.legality_rules.specs.declared.scope.Sort.TheVariants.{LoopVariable}
use Rattle.legality_rules.specs.Scopes.{Scope, is_in, kinds_in, known_as, one_by_one}
use Rattle.legality_rules.specs.Lines.{range_bounds}
use Rattle.legality_rules.specs.Rules.{passes}
use Rattle.legality_lines.specs.HeadChecks.{are_ints, reducers_in}
use Rattle.legality_names.specs.Names.{unknown}
use Rattle.legality_lines.proofs.Knowing.{KindMap, Knows, knows_front}
use Rattle.legality_lines.proofs.Going.{all_known}
use Rattle.legality_names.proofs.BaseScope.{inner_names, ints}
use Rattle.legality_lines.proofs.HeadLemmas.{all_split, filter_joined, flat_joined, inner_unknown, left_empty, reads_in, right_empty}

front : (f g : Kinds) (xs ys : List (List ℕ)) → SameAt f g (xs ++ ys) → SameAt f g xs
front f g [] ys h = tt
front f g (x ∷ xs) ys h = (h.0, front f g xs ys h.1)

back : (f g : Kinds) (xs ys : List (List ℕ)) → SameAt f g (xs ++ ys) → SameAt f g ys
back f g [] ys h = h
back f g (x ∷ xs) ys h = back f g xs ys h.1

-- the bounds have the same kinds where their names have
ints_same : (f g : Kinds) (xs : List Expr) → SameAt f g (reads_in xs) → are_ints f xs ≡ are_ints g xs
ints_same f g [] h = refl
ints_same f g (x ∷ xs) h =
    ap (λ r. passes is_int r && are_ints f xs) (settled x f g (front f g (names_read x) (reads_in xs) h))
    ∙ ap (λ b. passes is_int (kind_of x g) && b) (ints_same f g xs (back f g (names_read x) (reads_in xs) h))

-- those of the first head
pub first_ints : (reducers : List (List ℕ)) (scope : Scope) (kinds : KindMap) (bs : List (List ℕ)) (xs : List Expr) → Knows kinds bs scope → unknown reducers scope (reads_in xs) ≡ [] → reducers_in reducers xs ≡ [] →
    are_ints (get kinds) xs ≡ are_ints (kinds_in scope) xs
first_ints reducers scope kinds bs xs knows e h = ints_same (get kinds) (kinds_in scope) xs (all_known reducers scope kinds bs knows (reads_in xs) e h)

abbrev bounds_in : List Inner → List Expr
bounds_in is = flat_map (λ (i : Inner). range_bounds i.range) is

-- whether inner heads' bounds are Int, told the names in scope before the first
abbrev pub inner_ints : List Inner → Scope → Bool
inner_ints [] scope = true
inner_ints (i ∷ is) scope = are_ints (kinds_in scope) (range_bounds i.range) && inner_ints is (scope ++ known_as LoopVariable i.name (Some kind.Int) ∷ [])

pub inner_same : (reducers : List (List ℕ)) (kinds : KindMap) (bs : List (List ℕ)) (is : List Inner) (scope : Scope) → Knows kinds bs (scope ++ one_by_one LoopVariable (inner_names is) (ints is)) →
    inner_unknown reducers is scope ≡ [] → reducers_in reducers (bounds_in is) ≡ [] → are_ints (get kinds) (bounds_in is) ≡ inner_ints is scope
inner_same reducers kinds bs [] scope knows e h = refl
inner_same reducers kinds bs (i ∷ is) scope knows e h =
    let xs = range_bounds i.range in
    let one = known_as LoopVariable i.name (Some kind.Int) in
    let more = one_by_one LoopVariable (inner_names is) (ints is) in
    let both : reducers_in reducers xs ++ reducers_in reducers (bounds_in is) ≡ [] =
    sym (filter_joined (is_in reducers) (reads_in xs) (reads_in (bounds_in is))) ∙ ap (filter (is_in reducers)) (sym (flat_joined names_read xs (bounds_in is))) ∙ h in
    let P : Scope → Type 0 = λ z. Knows kinds bs z in
    let next : Knows kinds bs ((scope ++ one ∷ []) ++ more) = subst P (sym (append_assoc scope (one ∷ []) more)) knows in
    all_split (λ x. passes is_int (kind_of x (get kinds))) xs (bounds_in is)
    ∙ ap (λ b. b && are_ints (get kinds) (bounds_in is))
    (first_ints reducers scope kinds bs xs (knows_front kinds bs scope (one ∷ more) knows) (left_empty (unknown reducers scope (reads_in xs)) (inner_unknown reducers is (scope ++ one ∷ [])) e)
    (left_empty (reducers_in reducers xs) (reducers_in reducers (bounds_in is)) both))
    ∙ ap (λ b. are_ints (kinds_in scope) xs && b)
    (inner_same reducers kinds bs is (scope ++ one ∷ []) next (right_empty (unknown reducers scope (reads_in xs)) (inner_unknown reducers is (scope ++ one ∷ [])) e)
    (right_empty (reducers_in reducers xs) (reducers_in reducers (bounds_in is)) both))

-- The check of the `for` line finds the first offence of its heads, and keeps the state.
use Rattle.std.proofs.Common.{◌≡◌, ℕ, Bool, true, false, List, [], ◌∷◌, ◌++◌, Option, Some, None, Ok, refl, sym, ◌∙◌, ap, append_assoc, append-nil, map}
use Rattle.std.specs.Prelude.{◌&&◌, ◌||◌, if◌then◌else◌, codes, filter, flat_map}
use Rattle.std.specs.List.{list_all, AllByRecursion}
use Rattle.loop_data.specs.declared.value.ValueKind.{ValueKind}
use Rattle.loop_data.specs.declared.value.ValueKind.TheVariants as kind
use Rattle.loop_data.specs.declared.expr.Expr.{Expr, out-Expr}
use Rattle.loop_data.specs.declared.expr.Expr.TheOpen.{Expr-F, Expr-F as ef}
use Rattle.loop_data.specs.declared.head.HeadLine.{HeadLine}
use Rattle.loop_data.specs.declared.head.Inner.{Inner}
use Rattle.loop_values.specs.NamesIn.{names_read}
use Rattle.legality_rules.specs.declared.refusal.Offence.{Offence}
use Rattle.legality_rules.specs.declared.scope.Sort.TheVariants.{LoopVariable}
use Rattle.legality_rules.specs.Scopes.{Scope, is_in, is_scratch, item_kind, kinds_in, known_as, one_by_one, pattern_known, sort_in}
use Rattle.legality_rules.specs.Lines.{Entry, first_head, first_name, in_turn, inner_head, inner_listing, range_bounds, reduced}
use Rattle.legality_rules.specs.Rules.{Outline, Spot, bound_by, carried_scratches, is_assigned, is_splittable, is_splittable_at as splittable_at, items_fit, reduced_by, reducers_used, repeated, unknown_names, names_bound_twice, rules, types_differ, heads_not_splittable, carried_variables, reducers_with_other_towers, starts_not_allowed, sites_too_many}
use Rattle.legality_rules.specs.Paths.{is_reached}
use Rattle.legality_rules.specs.Offences.{spots_after}
use Rattle.legality_rules.specs.Cuts.{or_else}
use Rattle.legality_lines.specs.declared.state.State.{State}
use Rattle.legality_names.specs.Answers.{answer, leftmost, named, and_then}
use Rattle.legality_lines.specs.HeadChecks.{are_ints, bounds_of_first, bounds_of_inner, inner_checked, reducers_in}
use Rattle.legality_lines.specs.Kinds.{is_splittable_at, is_splittable_in}
use Rattle.legality_names.specs.Names.{head_names, unknown}
use Rattle.legality_lines.specs.States.{with_each, with_name}
use Rattle.legality_names.proofs.NameLemmas.{one_of_both}
use Rattle.legality_names.proofs.BaseScope.{inner_names, ints}
use Rattle.legality_lines.proofs.Knowing.{bound_added}
use Rattle.legality_lines.proofs.LineFirst.{line_broken}

-- ---- lists

pub flat_joined : {X Y : Type 0} (f : X → List Y) (xs ys : List X) → flat_map f (xs ++ ys) ≡ flat_map f xs ++ flat_map f ys
flat_joined f [] ys = refl
flat_joined f (x ∷ xs) ys = ap (λ s. f x ++ s) (flat_joined f xs ys) ∙ sym (append_assoc (f x) (flat_map f xs) (flat_map f ys))

pub filter_joined : (p : List ℕ → Bool) (xs ys : List (List ℕ)) → filter p (xs ++ ys) ≡ filter p xs ++ filter p ys
filter_joined p [] ys = refl
filter_joined p (x ∷ xs) ys = kept (p x) (filter_joined p xs ys)
  where
    kept : (t : Bool) → filter p (xs ++ ys) ≡ filter p xs ++ filter p ys → (if t then x ∷ filter p (xs ++ ys) else filter p (xs ++ ys)) ≡ (if t then x ∷ filter p xs else filter p xs) ++ filter p ys
    kept true e = ap (λ z. x ∷ z) e
    kept false e = e

pub all_split : (f : Expr → Bool) (xs ys : List Expr) → list_all f (xs ++ ys) ≡ (list_all f xs && list_all f ys)
all_split f [] ys = refl
all_split f (x ∷ xs) ys = ap (λ b. f x && b) (all_split f xs ys) ∙ and_assoc (f x) (list_all f xs) (list_all f ys)
  where
    and_assoc : (a b c : Bool) → (a && (b && c)) ≡ ((a && b) && c)
    and_assoc true b c = refl
    and_assoc false b c = refl

-- whether a name stands in two lists is all that matters
repeated_same : (before other ns : List (List ℕ)) → ((n : List ℕ) → is_in before n ≡ is_in other n) → repeated before ns ≡ repeated other ns
repeated_same before other [] h = refl
repeated_same before other (n ∷ ns) h =
    ap (λ b. (if b then n ∷ [] else []) ++ repeated (before ++ n ∷ []) ns) (h n)
    ∙ ap (λ z. (if is_in other n then n ∷ [] else []) ++ z)
    (repeated_same (before ++ n ∷ []) (other ++ n ∷ []) ns (λ m. one_of_both before (n ∷ []) m ∙ ap (λ b. b || is_in (n ∷ []) m) (h m) ∙ sym (one_of_both other (n ∷ []) m)))

pub repeated_joined : (before ns ms : List (List ℕ)) → repeated before (ns ++ ms) ≡ repeated before ns ++ repeated (before ++ ns) ms
repeated_joined before [] ms = ap (λ z. repeated z ms) (sym (append-nil before))
repeated_joined before (n ∷ ns) ms =
    ap (λ z. (if is_in before n then n ∷ [] else []) ++ z)
    (repeated_joined (before ++ n ∷ []) ns ms ∙ ap (λ z. repeated (before ++ n ∷ []) ns ++ repeated z ms) (append_assoc before (n ∷ []) ns))
    ∙ sym (append_assoc (if is_in before n then n ∷ [] else []) (repeated (before ++ n ∷ []) ns) (repeated (before ++ n ∷ ns) ms))

swapped : (a b c : Bool) → ((a || b) || c) ≡ ((a || c) || b)
swapped true b c = refl
swapped false true true = refl
swapped false true false = refl
swapped false false true = refl
swapped false false false = refl

-- names behind reducers, and before them
moved : (bs rs ns : List (List ℕ)) (m : List ℕ) → is_in ((bs ++ ns) ++ rs) m ≡ is_in ((bs ++ rs) ++ ns) m
moved bs rs ns m =
    one_of_both (bs ++ ns) rs m ∙ ap (λ b. b || is_in rs m) (one_of_both bs ns m) ∙ swapped (is_in bs m) (is_in ns m) (is_in rs m)
    ∙ ap (λ b. b || is_in ns m) (sym (one_of_both bs rs m)) ∙ sym (one_of_both (bs ++ rs) ns m)

pub named_joined : (number line : ℕ) (xs ys : List (List ℕ)) → named number line (leftmost (xs ++ ys)) ≡ or_else (named number line (leftmost xs)) (named number line (leftmost ys))
named_joined number line [] ys = refl
named_joined number line (x ∷ xs) ys = refl

pub none_of : (number line : ℕ) (ns : List (List ℕ)) → named number line (leftmost ns) ≡ None → ns ≡ []
none_of number line [] e = refl
none_of number line (n ∷ ns) e = absurd (cc)

pub left_empty : {X : Type 0} (xs ys : List X) → xs ++ ys ≡ [] → xs ≡ []
left_empty [] ys e = refl
left_empty (x ∷ xs) ys e = absurd (cc)

pub right_empty : {X : Type 0} (xs ys : List X) → xs ++ ys ≡ [] → ys ≡ []
right_empty [] ys e = e
right_empty (x ∷ xs) ys e = absurd (cc)

-- ---- inner heads

abbrev pub inner_known : List Inner → Scope
inner_known is = map (λ (i : Inner). known_as LoopVariable i.name (Some kind.Int)) is

abbrev pub reads_in : List Expr → List (List ℕ)
reads_in xs = flat_map names_read xs

-- the names that inner heads' bounds read and that aren't known, told the names in scope before the first
abbrev pub inner_unknown : List (List ℕ) → List Inner → Scope → List (List ℕ)
inner_unknown reducers [] scope = []
inner_unknown reducers (i ∷ is) scope = unknown reducers scope (reads_in (range_bounds i.range)) ++ inner_unknown reducers is (scope ++ known_as LoopVariable i.name (Some kind.Int) ∷ [])

pub after_inner : (reducers : List (List ℕ)) (line : ℕ) (is : List Inner) (state : State) →
    inner_checked reducers line is state ≡ and_then (answer (named 1 line (leftmost (inner_unknown reducers is state.scope)))) (λ _. Ok (with_each LoopVariable (inner_names is) (ints is) state))
after_inner reducers line [] state = refl
after_inner reducers line (i ∷ is) state =
    at (unknown reducers state.scope (reads_in (range_bounds i.range))) (after_inner reducers line is (with_name LoopVariable i.name (Some kind.Int) state))
  where
    at : (ns : List (List ℕ)) →
        inner_checked reducers line is (with_name LoopVariable i.name (Some kind.Int) state)
        ≡ and_then (answer (named 1 line (leftmost (inner_unknown reducers is (state.scope ++ known_as LoopVariable i.name (Some kind.Int) ∷ []))))) (λ _. Ok (with_each LoopVariable (inner_names (i ∷ is)) (ints (i ∷ is)) state)) → and_then (and_then (answer (named 1 line (leftmost ns))) (λ _. Ok (with_name LoopVariable i.name (Some kind.Int) state))) (inner_checked reducers line is)
        ≡ and_then (answer (named 1 line (leftmost (ns ++ inner_unknown reducers is (state.scope ++ known_as LoopVariable i.name (Some kind.Int) ∷ []))))) (λ _. Ok (with_each LoopVariable (inner_names (i ∷ is)) (ints (i ∷ is)) state))
    at [] e = e
    at (n ∷ ns) e = refl

pub scope_of_each : (ns : List (List ℕ)) (ks : List ValueKind) (state : State) → let after : State = with_each LoopVariable ns ks state in after.scope ≡ state.scope ++ one_by_one LoopVariable ns ks
scope_of_each [] [] state = sym (append-nil state.scope)
scope_of_each [] (k ∷ ks) state = sym (append-nil state.scope)
scope_of_each (n ∷ ns) (k ∷ ks) state =
    scope_of_each ns ks (with_name LoopVariable n (Some k) state) ∙ append_assoc state.scope (known_as LoopVariable n (Some k) ∷ []) (one_by_one LoopVariable ns ks)
scope_of_each (n ∷ ns) [] state =
    scope_of_each ns [] (with_name LoopVariable n None state) ∙ append_assoc state.scope (known_as LoopVariable n None ∷ []) (one_by_one LoopVariable ns [])
    ∙ ap (λ z. state.scope ++ known_as LoopVariable n None ∷ z) (no_kinds_left ns)
  where
    no_kinds_left : (ns : List (List ℕ)) → one_by_one LoopVariable ns [] ≡ map (λ n. known_as LoopVariable n None) ns
    no_kinds_left [] = refl
    no_kinds_left (n ∷ ns) = refl

known_of_inner : (is : List Inner) → one_by_one LoopVariable (inner_names is) (ints is) ≡ inner_known is
known_of_inner [] = refl
known_of_inner (i ∷ is) = ap (λ z. known_as LoopVariable i.name (Some kind.Int) ∷ z) (known_of_inner is)

-- ---- what each rule says of the heads

module _ (outline : Outline) (h : HeadLine) where
  abbrev pub reducers : List (List ℕ)
  reducers = reduced_by outline.entries

  abbrev pub called : List ℕ
  called = first_name h.names

  abbrev pub entry_of : Inner → Scope → Entry
  entry_of i scope = record { line = h.line; called = called; scope = scope; says = inner_head i.name i.range }

  abbrev pub spots_of : List Entry → List Inner → Scope → List Spot
  spots_of before is scope = spots_after before (in_turn (map (inner_listing h) is) scope)

  abbrev pub next : Inner → Scope → Scope
  next i scope = scope ++ known_as LoopVariable i.name (Some kind.Int) ∷ []

  abbrev pub spot_of : List Entry → Inner → Scope → Spot
  spot_of before i scope = record { earlier = before; here = entry_of i scope }

  pub on_the_line : (before : List Entry) (is : List Inner) (scope : Scope) → AllByRecursion (λ spot. spot.here.line ≡ h.line) (spots_of before is scope)
  on_the_line before [] scope = tt
  on_the_line before (i ∷ is) scope = (refl, on_the_line (before ++ entry_of i scope ∷ []) is (next i scope))

  unknown_inner : (before : List Entry) (is : List Inner) (scope : Scope) → flat_map (unknown_names outline) (spots_of before is scope) ≡ inner_unknown reducers is scope
  unknown_inner before [] scope = refl
  unknown_inner before (i ∷ is) scope =
      let ns = unknown reducers scope (reads_in (range_bounds i.range)) in
      ap (λ z. z ++ flat_map (unknown_names outline) (spots_of (before ++ entry_of i scope ∷ []) is (next i scope))) (append-nil ns)
      ∙ ap (λ z. ns ++ z) (unknown_inner (before ++ entry_of i scope ∷ []) is (next i scope))

  abbrev pub taken_before : List Entry → List (List ℕ)
  taken_before before = bound_by before ++ reduced_by before

  reduced_added : (before : List Entry) (i : Inner) (scope : Scope) → reduced_by (before ++ entry_of i scope ∷ []) ≡ reduced_by before
  reduced_added before i scope = flat_joined (λ (e : Entry). reduced e.says) before (entry_of i scope ∷ []) ∙ append-nil (reduced_by before)

  taken_after : (before : List Entry) (i : Inner) (scope : Scope) (m : List ℕ) → is_in (taken_before (before ++ entry_of i scope ∷ [])) m ≡ is_in (taken_before before ++ i.name ∷ []) m
  taken_after before i scope m =
      ap (λ z. is_in (z ++ reduced_by (before ++ entry_of i scope ∷ [])) m) (bound_added before (entry_of i scope))
      ∙ ap (λ z. is_in ((bound_by before ++ i.name ∷ []) ++ z) m) (reduced_added before i scope)
      ∙ moved (bound_by before) (reduced_by before) (i.name ∷ []) m

  twice_inner : (before : List Entry) (is : List Inner) (scope : Scope) → flat_map (names_bound_twice outline) (spots_of before is scope) ≡ repeated (taken_before before) (inner_names is)
  twice_inner before [] scope = refl
  twice_inner before (i ∷ is) scope =
      ap (λ z. z ++ flat_map (names_bound_twice outline) (spots_of (before ++ entry_of i scope ∷ []) is (next i scope))) (append-nil (repeated (taken_before before) (i.name ∷ []) ++ []) ∙ append-nil (repeated (taken_before before) (i.name ∷ [])))
      ∙ ap (λ z. repeated (taken_before before) (i.name ∷ []) ++ z)
      (twice_inner (before ++ entry_of i scope ∷ []) is (next i scope)
      ∙ repeated_same (taken_before (before ++ entry_of i scope ∷ [])) (taken_before before ++ i.name ∷ []) (inner_names is) (taken_after before i scope))
      ∙ sym (repeated_joined (taken_before before) (i.name ∷ []) (inner_names is))

  reducers_inner : (before : List Entry) (is : List Inner) (scope : Scope) → flat_map (reducers_used outline) (spots_of before is scope) ≡ reducers_in reducers (flat_map (λ (i : Inner). range_bounds i.range) is)
  reducers_inner before [] scope = refl
  reducers_inner before (i ∷ is) scope =
      let rest = flat_map (λ (i : Inner). range_bounds i.range) is in
      ap (λ z. filter (is_in reducers) (reads_in (range_bounds i.range)) ++ z) (reducers_inner (before ++ entry_of i scope ∷ []) is (next i scope))
      ∙ sym (filter_joined (is_in reducers) (reads_in (range_bounds i.range)) (reads_in rest))
      ∙ ap (filter (is_in reducers)) (sym (flat_joined names_read (range_bounds i.range) rest))

  -- rules that inner heads can't break
  none_inner : (rule : Outline → Spot → List (List ℕ)) → ((before : List Entry) (i : Inner) (scope : Scope) → rule outline (spot_of before i scope) ≡ []) →
      (before : List Entry) (is : List Inner) (scope : Scope) → flat_map (rule outline) (spots_of before is scope) ≡ []
  none_inner rule e before [] scope = refl
  none_inner rule e before (i ∷ is) scope =
      ap (λ z. z ++ flat_map (rule outline) (spots_of (before ++ entry_of i scope ∷ []) is (next i scope))) (e before i scope) ∙ none_inner rule e (before ++ entry_of i scope ∷ []) is (next i scope)

  -- no scratch is in scope
  abbrev pub NoScratch : Scope → Type 0
  NoScratch scope = (n : List ℕ) → is_scratch (sort_in scope n) ≡ false

  pub no_scratch_reads : (scope : Scope) (p q : List ℕ → Bool) → NoScratch scope → (ns : List (List ℕ)) → filter (λ n. is_scratch (sort_in scope n) && p n && q n) ns ≡ []
  no_scratch_reads scope p q none [] = refl
  no_scratch_reads scope p q none (n ∷ ns) =
      ap (λ b. if b && p n && q n then n ∷ filter (λ n. is_scratch (sort_in scope n) && p n && q n) ns else filter (λ n. is_scratch (sort_in scope n) && p n && q n) ns) (none n) ∙ no_scratch_reads scope p q none ns

  -- the kinds of inner heads' bounds
  abbrev pub keeps_inner : List Inner → Scope → Bool
  keeps_inner [] scope = true
  keeps_inner (i ∷ is) scope = are_ints (kinds_in scope) (range_bounds i.range) && keeps_inner is (next i scope)

  seven_step : (a b : Bool) (rest : List (List ℕ)) → leftmost rest ≡ (if b then None else Some called) → leftmost ((if a then [] else called ∷ []) ++ rest) ≡ (if a && b then None else Some called)
  seven_step true b rest e = e
  seven_step false b rest e = refl

  seven_inner : (before : List Entry) (is : List Inner) (scope : Scope) → leftmost (flat_map (types_differ outline) (spots_of before is scope)) ≡ (if keeps_inner is scope then None else Some called)
  seven_inner before [] scope = refl
  seven_inner before (i ∷ is) scope =
      seven_step (are_ints (kinds_in scope) (range_bounds i.range)) (keeps_inner is (next i scope)) (flat_map (types_differ outline) (spots_of (before ++ entry_of i scope ∷ []) is (next i scope)))
      (seven_inner (before ++ entry_of i scope ∷ []) is (next i scope))

  -- ---- the whole line

  -- offences against ten rules, told the names of each
  abbrev pub ten : (a b c d e f g i j k : List (List ℕ)) → Option Offence
  ten a b c d e f g i j k =
      or_else (named 1 h.line (leftmost a)) (or_else (named 2 h.line (leftmost b)) (or_else (named 3 h.line (leftmost c)) (or_else (named 4 h.line (leftmost d)) (or_else (named 5 h.line (leftmost e))
      (or_else (named 6 h.line (leftmost f)) (or_else (named 7 h.line (leftmost g)) (or_else (named 8 h.line (leftmost i)) (or_else (named 9 h.line (leftmost j)) (or_else (named 10 h.line (leftmost k)) None)))))))))

  module _ (before : List Entry) (scope : Scope) where
    abbrev pub first_entry : Entry
    first_entry = record { line = h.line; called = called; scope = scope; says = first_head h.names h.axes h.product }

    abbrev pub first_spot : Spot
    first_spot = record { earlier = before; here = first_entry }

    abbrev pub scope_inside : Scope
    scope_inside = scope ++ pattern_known LoopVariable h.names (item_kind h.product h.axes)

    abbrev pub inner_spots : List Spot
    inner_spots = spots_of (before ++ first_entry ∷ []) h.inner scope_inside

    abbrev pub first_reads : List (List ℕ)
    first_reads = reads_in (bounds_of_first h)

    abbrev pub unknown_all : List (List ℕ)
    unknown_all = unknown reducers scope first_reads ++ inner_unknown reducers h.inner scope_inside

    abbrev pub twice_all : List (List ℕ)
    twice_all = repeated (taken_before before) (head_names h)

    abbrev pub reducers_all : List (List ℕ)
    reducers_all = reducers_in reducers (bounds_of_first h) ++ reducers_in reducers (bounds_of_inner h)

    -- whether the heads keep to the kinds
    abbrev pub keeps_all : Bool
    keeps_all = (are_ints (kinds_in scope) (bounds_of_first h) && items_fit h.names (item_kind h.product h.axes)) && keeps_inner h.inner scope_inside

    abbrev pub splits : Bool
    splits = list_all (is_splittable first_spot) (bounds_of_first h)

    -- the first offence of the line, rule by rule
    abbrev pub by_line : Option Offence
    by_line =
        or_else (named 1 h.line (leftmost unknown_all)) (or_else (named 2 h.line (leftmost twice_all)) (or_else (named 5 h.line (leftmost reducers_all))
        (or_else (if keeps_all then None else Some (record { number = 7; line = h.line; name = called })) (or_else (if splits then None else Some (record { number = 9; line = h.line; name = codes "for" })) None))))

    twice_first : names_bound_twice outline first_spot ++ flat_map (names_bound_twice outline) inner_spots ≡ twice_all
    twice_first =
        ap (λ z. z ++ flat_map (names_bound_twice outline) inner_spots) (append-nil (repeated (taken_before before) h.names ++ []) ∙ append-nil (repeated (taken_before before) h.names))
        ∙ ap (λ z. repeated (taken_before before) h.names ++ z)
        (twice_inner (before ++ first_entry ∷ []) h.inner scope_inside
        ∙ repeated_same (taken_before (before ++ first_entry ∷ [])) (taken_before before ++ h.names) (inner_names h.inner)
        (λ m. ap (λ z. is_in (z ++ reduced_by (before ++ first_entry ∷ [])) m) (bound_added before first_entry)
        ∙ ap (λ z. is_in ((bound_by before ++ h.names) ++ z) m) (flat_joined (λ (e : Entry). reduced e.says) before (first_entry ∷ []) ∙ append-nil (reduced_by before))
        ∙ moved (bound_by before) (reduced_by before) h.names m))
        ∙ sym (repeated_joined (taken_before before) h.names (inner_names h.inner))

    seven_named : (t : Bool) (g : List (List ℕ)) → leftmost g ≡ (if t then None else Some called) → named 7 h.line (leftmost g) ≡ (if t then None else Some (record { number = 7; line = h.line; name = called }))
    seven_named true g e = ap (named 7 h.line) e
    seven_named false g e = ap (named 7 h.line) e

    nine_named : (t : Bool) → named 9 h.line (leftmost ((if t then [] else codes "for" ∷ []) ++ [])) ≡ (if t then None else Some (record { number = 9; line = h.line; name = codes "for" }))
    nine_named true = refl
    nine_named false = refl

    pub line_is : NoScratch scope → ((i : List Entry) (is : List Inner) → flat_map (carried_scratches outline) (spots_of i is scope_inside) ≡ []) →
        line_broken outline h.line (first_spot ∷ inner_spots) rules ≡ by_line
    line_is none inner_none =
        let after = before ++ first_entry ∷ [] in
        let r : (Outline → Spot → List (List ℕ)) → List (List ℕ) = λ rule. rule outline first_spot ++ flat_map (rule outline) inner_spots in
        let none3 = none_inner carried_variables (λ b i s. refl) after h.inner scope_inside in
        let none6 = none_inner reducers_with_other_towers (λ b i s. refl) after h.inner scope_inside in
        let none8 = none_inner starts_not_allowed (λ b i s. refl) after h.inner scope_inside in
        let none9 = none_inner heads_not_splittable (λ b i s. refl) after h.inner scope_inside in
        let none10 = none_inner sites_too_many (λ b i s. refl) after h.inner scope_inside in
        let one : unknown_names outline first_spot ++ flat_map (unknown_names outline) inner_spots ≡ unknown_all =
        ap (λ z. z ++ flat_map (unknown_names outline) inner_spots) (append-nil (unknown reducers scope first_reads)) ∙ ap (λ z. unknown reducers scope first_reads ++ z) (unknown_inner after h.inner scope_inside) in
        let four : carried_scratches outline first_spot ++ flat_map (carried_scratches outline) inner_spots ≡ [] =
        ap (λ z. z ++ flat_map (carried_scratches outline) inner_spots) (no_scratch_reads scope (is_assigned outline) (is_reached outline.paths h.line) none first_reads) ∙ inner_none after h.inner in
        let five : reducers_used outline first_spot ++ flat_map (reducers_used outline) inner_spots ≡ reducers_all = ap (λ z. filter (is_in reducers) first_reads ++ z) (reducers_inner after h.inner scope_inside) in
        ap (λ z. ten z (r names_bound_twice) (r carried_variables) (r carried_scratches) (r reducers_used) (r reducers_with_other_towers) (r types_differ) (r starts_not_allowed) (r heads_not_splittable) (r sites_too_many)) one
        ∙ ap (λ z. ten unknown_all z (r carried_variables) (r carried_scratches) (r reducers_used) (r reducers_with_other_towers) (r types_differ) (r starts_not_allowed) (r heads_not_splittable) (r sites_too_many)) twice_first
        ∙ ap (λ z. ten unknown_all twice_all z (r carried_scratches) (r reducers_used) (r reducers_with_other_towers) (r types_differ) (r starts_not_allowed) (r heads_not_splittable) (r sites_too_many)) none3
        ∙ ap (λ z. ten unknown_all twice_all [] z (r reducers_used) (r reducers_with_other_towers) (r types_differ) (r starts_not_allowed) (r heads_not_splittable) (r sites_too_many)) four
        ∙ ap (λ z. ten unknown_all twice_all [] [] z (r reducers_with_other_towers) (r types_differ) (r starts_not_allowed) (r heads_not_splittable) (r sites_too_many)) five
        ∙ ap (λ z. ten unknown_all twice_all [] [] reducers_all z (r types_differ) (r starts_not_allowed) (r heads_not_splittable) (r sites_too_many)) none6
        ∙ ap (λ z. ten unknown_all twice_all [] [] reducers_all [] (r types_differ) z (r heads_not_splittable) (r sites_too_many)) none8
        ∙ ap (λ z. ten unknown_all twice_all [] [] reducers_all [] (r types_differ) [] ((if splits then [] else codes "for" ∷ []) ++ z) (r sites_too_many)) none9
        ∙ ap (λ z. ten unknown_all twice_all [] [] reducers_all [] (r types_differ) [] ((if splits then [] else codes "for" ∷ []) ++ []) z) none10
        ∙ ap (λ o. or_else (named 1 h.line (leftmost unknown_all)) (or_else (named 2 h.line (leftmost twice_all)) (or_else (named 5 h.line (leftmost reducers_all)) (or_else o (or_else (named 9 h.line (leftmost ((if splits then [] else codes "for" ∷ []) ++ []))) None)))))
        (seven_named keeps_all (r types_differ) (seven_step (are_ints (kinds_in scope) (bounds_of_first h) && items_fit h.names (item_kind h.product h.axes)) (keeps_inner h.inner scope_inside) (flat_map (types_differ outline) inner_spots) (seven_inner after h.inner scope_inside)))
        ∙ ap (λ o. or_else (named 1 h.line (leftmost unknown_all)) (or_else (named 2 h.line (leftmost twice_all)) (or_else (named 5 h.line (leftmost reducers_all)) (or_else (if keeps_all then None else Some (record { number = 7; line = h.line; name = called })) (or_else o None)))))
        (nine_named splits)

    -- ---- the check

    abbrev pub inner_entries : List Entry
    inner_entries = in_turn (map (inner_listing h) h.inner) scope_inside

    same_splits : (v : Expr-F Expr) → is_splittable_at scope v ≡ splittable_at first_spot v
    same_splits (ef.Lit v) = refl
    same_splits (ef.Name n) = refl
    same_splits ef.Place = refl
    same_splits (ef.Neg a) = refl
    same_splits (ef.Not a) = refl
    same_splits (ef.Two o a b) = refl
    same_splits (ef.Call w a) = refl
    same_splits (ef.If t a b) = refl
    same_splits (ef.Tuple ps) = refl

    all_same : (f g : Expr → Bool) → ((x : Expr) → f x ≡ g x) → (xs : List Expr) → list_all f xs ≡ list_all g xs
    all_same f g e [] = refl
    all_same f g e (x ∷ xs) = ap (λ b. b && list_all f xs) (e x) ∙ ap (λ b. g x && b) (all_same f g e xs)

    pub splits_is : list_all (is_splittable_in scope) (bounds_of_first h) ≡ splits
    splits_is = all_same (is_splittable_in scope) (is_splittable first_spot) (λ x. same_splits (out-Expr x)) (bounds_of_first h)

-- What the rules on names, outer variables and scratches say of a legal program as a whole.
use Rattle.std.proofs.Common.{◌≡◌, ◌≢◌, ℕ, Bool, true, false, List, [], ◌∷◌, ◌++◌, map, Some, None, refl, ap, sym, ◌∙◌, subst}
use Rattle.std.specs.Prelude.{not, ◌&&◌, ◌||◌, flat_map}
use Rattle.std.specs.List.{list_any, AllByRecursion}
use Rattle.std.specs.Str.{bytes_eq}
use Rattle.std.proofs.lemmas.List.Folds.{list_any-append}
use Rattle.loop_data.specs.declared.head.Binding.{Binding}
use Rattle.loop_data.specs.declared.head.HeadLine.{HeadLine}
use Rattle.loop_data.specs.declared.head.Inner.{Inner}
use Rattle.loop_grammar.specs.declared.tree.ProgramTree.{ProgramTree}
use Rattle.loop_values.specs.Bindings.{place_name}
use Rattle.loop_values.specs.NamesIn.{names_read}
use Rattle.loop_values.proofs.EntryLemmas.{same_self}
use Rattle.legality_rules.specs.declared.scope.Sort.TheVariants.{Variable, LoopVariable, Scratch}
use Rattle.legality_rules.specs.Cuts.{scope_after}
use Rattle.legality_rules.specs.Lines.{Entry, Listing, assigned, bound, entries_of, head_listing, in_turn, init_listing, inner_listing, print_listing, range_bounds, statement_listing, var_listing}
use Rattle.legality_rules.specs.Offences.{IsLegal, spots_after, spots_of}
use Rattle.legality_rules.specs.Paths.{is_reached, paths_of}
use Rattle.legality_rules.specs.Rules.{Outline, bound_by, is_assigned, outline_of}
use Rattle.legality_rules.specs.Scopes.{Scope, is_in, sort_in}
use Rattle.legality_rules.proofs.CutLemmas.{entries_of_two}
use Rattle.legality_rules.proofs.RuleLemmas.{legal_keeps}
use Rattle.loop_meaning.specs.Assigned.{IsNoneOf, all_assigned, assigned_by, assigned_in}
use Rattle.loop_meaning.specs.Stores.{names_of, stored_names}
use Rattle.carries_nothing.specs.Alike.{is_lasting, is_scratch, is_variable}
use Rattle.carries_nothing.specs.Bodies.{is_named}
use Rattle.carries_nothing.proofs.EntryNames.{all_statements_told, names_at, reads_at}
use Rattle.carries_nothing.proofs.SameNames.{first_false, second_false}
use Rattle.carries_nothing.proofs.ScopeLemmas.{heads_grow, inits_grow, inner_grows, or_later, pattern_grows, vars_grow, where_so}
use Rattle.carries_nothing.proofs.SpotLemmas.{Keeps, bound_once, flat_joined, gathered, keeps_all, left_spots, none_unread, right_spots, scratch_unread, unknown_unread, unnamed, variable_stays}

scope_of_two : (xs ys : List Listing) (scope : Scope) → scope_after (xs ++ ys) scope ≡ scope_after ys (scope_after xs scope)
scope_of_two [] ys scope = refl
scope_of_two (x ∷ xs) ys scope = scope_of_two xs ys (scope_after (x ∷ []) scope)

-- ---- what the parts of a program bind

vars_bind : (vs : List Binding) (scope : Scope) → bound_by (in_turn (map var_listing vs) scope) ≡ names_of vs
vars_bind [] scope = refl
vars_bind (v ∷ vs) scope = ap (λ ns. v.name ∷ ns) (vars_bind vs (scope_after (var_listing v ∷ []) scope))

inits_bind : (vs : List Binding) (scope : Scope) → bound_by (in_turn (map init_listing vs) scope) ≡ names_of vs
inits_bind [] scope = refl
inits_bind (v ∷ vs) scope = ap (λ ns. v.name ∷ ns) (inits_bind vs (scope_after (init_listing v ∷ []) scope))

abbrev pub inner_names : List Inner → List (List ℕ)
inner_names inner = map (λ (i : Inner). i.name) inner

inners_bind : (h : HeadLine) (inner : List Inner) (scope : Scope) → bound_by (in_turn (map (inner_listing h) inner) scope) ≡ inner_names inner
inners_bind h [] scope = refl
inners_bind h (i ∷ inner) scope = ap (λ ns. i.name ∷ ns) (inners_bind h inner (scope_after (inner_listing h i ∷ []) scope))

-- ---- names that are none of others

none_of : (n : List ℕ) (ns : List (List ℕ)) → is_in ns n ≡ false → IsNoneOf n ns
none_of n [] e = tt
none_of n (m ∷ ms) e =
    ((λ is. absurd (let one = first_false (bytes_eq n m) (is_in ms n) e in let two : bytes_eq n m ≡ true = ap (bytes_eq n) (sym is) ∙ same_self n in cc)), none_of n ms (second_false (bytes_eq n m) (is_in ms n) e))

none_of_both : (n : List ℕ) (xs ys : List (List ℕ)) → IsNoneOf n xs → IsNoneOf n ys → IsNoneOf n (xs ++ ys)
none_of_both n [] ys h k = k
none_of_both n (x ∷ xs) ys h k = (h.0, none_of_both n xs ys h.1 k)

-- ---- truth values

unless : (b : Bool) → (b ≡ true → ⊥) → b ≡ false
unless true h = absurd (h refl)
unless false h = refl

not_both : (b : Bool) → b ≡ true → b ≡ false → ⊥
not_both b t f = absurd (cc)

-- ---- a program's parts

module _ (program : ProgramTree) (legal : IsLegal program) where
  abbrev outline : Outline
  outline = outline_of program

  abbrev vars : List Listing
  vars = map var_listing program.vars

  abbrev heads : List Listing
  heads = head_listing program.head ∷ map (inner_listing program.head) program.head.inner

  abbrev inits : List Listing
  inits = map init_listing program.scratch

  abbrev statements : List Listing
  statements = map statement_listing program.body

  abbrev after_vars : Scope
  after_vars = scope_after vars []

  abbrev after_heads : Scope
  after_heads = scope_after heads after_vars

  abbrev after_inits : Scope
  after_inits = scope_after inits after_heads

  abbrev of_vars : List Entry
  of_vars = in_turn vars []

  abbrev of_heads : List Entry
  of_heads = in_turn heads after_vars

  abbrev of_inits : List Entry
  of_inits = in_turn inits after_heads

  abbrev of_body : List Entry
  of_body = in_turn statements after_inits

  abbrev of_prints : List Entry
  of_prints = in_turn (map print_listing program.prints) (scope_after (((vars ++ heads) ++ inits) ++ statements) [])

  entries_are : entries_of program ≡ (((of_vars ++ of_heads) ++ of_inits) ++ of_body) ++ of_prints
  entries_are =
      entries_of_two (((vars ++ heads) ++ inits) ++ statements) (map print_listing program.prints) []
      ∙ ap (λ es. es ++ of_prints) (entries_of_two ((vars ++ heads) ++ inits) statements [])
      ∙ ap (λ es. (es ++ in_turn statements (scope_after ((vars ++ heads) ++ inits) [])) ++ of_prints) (entries_of_two (vars ++ heads) inits [])
      ∙ ap (λ es. ((es ++ in_turn inits (scope_after (vars ++ heads) [])) ++ in_turn statements (scope_after ((vars ++ heads) ++ inits) [])) ++ of_prints) (entries_of_two vars heads [])
      ∙ ap (λ s. (((of_vars ++ of_heads) ++ in_turn inits (scope_after (vars ++ heads) [])) ++ in_turn statements s) ++ of_prints) (scope_of_two (vars ++ heads) inits [])
      ∙ ap (λ s. (((of_vars ++ of_heads) ++ in_turn inits s) ++ in_turn statements (scope_after inits s)) ++ of_prints) (scope_of_two vars heads [])

  all_keep : AllByRecursion (Keeps outline) (spots_after [] ((((of_vars ++ of_heads) ++ of_inits) ++ of_body) ++ of_prints))
  all_keep = subst (λ es. AllByRecursion (Keeps outline) (spots_after [] es)) entries_are (keeps_all outline (spots_of program) (legal_keeps program legal))

  to_body : AllByRecursion (Keeps outline) (spots_after [] (((of_vars ++ of_heads) ++ of_inits) ++ of_body))
  to_body = left_spots outline [] (((of_vars ++ of_heads) ++ of_inits) ++ of_body) of_prints all_keep

  body_keeps : AllByRecursion (Keeps outline) (spots_after ((of_vars ++ of_heads) ++ of_inits) of_body)
  body_keeps = right_spots outline [] ((of_vars ++ of_heads) ++ of_inits) of_body to_body

  to_inits : AllByRecursion (Keeps outline) (spots_after [] ((of_vars ++ of_heads) ++ of_inits))
  to_inits = left_spots outline [] ((of_vars ++ of_heads) ++ of_inits) of_body to_body

  inits_keep : AllByRecursion (Keeps outline) (spots_after (of_vars ++ of_heads) of_inits)
  inits_keep = right_spots outline [] (of_vars ++ of_heads) of_inits to_inits

  heads_keep : AllByRecursion (Keeps outline) (spots_after of_vars of_heads)
  heads_keep = right_spots outline [] of_vars of_heads (left_spots outline [] (of_vars ++ of_heads) of_inits to_inits)

  -- ---- names of the store are bound once

  abbrev head_names : List (List ℕ)
  head_names = program.head.names ++ inner_names program.head.inner

  heads_bind : bound_by of_heads ≡ head_names
  heads_bind = ap (λ ns. program.head.names ++ ns) (inners_bind program.head program.head.inner (scope_after (head_listing program.head ∷ []) after_vars))

  bound_before : (n : List ℕ) → is_in (bound_by (of_vars ++ of_heads)) n ≡ (is_in (names_of program.vars) n || is_in head_names n)
  bound_before n =
      ap (λ ns. is_in ns n) (flat_joined (λ (e : Entry). bound e.says) of_vars of_heads ∙ ap (λ ns. ns ++ bound_by of_heads) (vars_bind program.vars []) ∙ ap (λ ns. names_of program.vars ++ ns) heads_bind)
      ∙ list_any-append (bytes_eq n) (names_of program.vars) head_names

  -- a scratch is neither an outer variable nor a name of a head
  scratch_apart : (n : List ℕ) → is_scratch program n ≡ true → (is_in (names_of program.vars) n || is_in head_names n) ≡ false
  scratch_apart n scratch =
      unless (is_in (names_of program.vars) n || is_in head_names n)
      (λ h. not_both (is_scratch program n) scratch (sym (ap (λ ns. is_in ns n) (inits_bind program.scratch after_heads)) ∙ bound_once outline (of_vars ++ of_heads) of_inits n inits_keep (bound_before n ∙ h)))

  variable_no_head : (n : List ℕ) → is_variable program n ≡ true → is_in head_names n ≡ false
  variable_no_head n variable =
      sym (ap (λ ns. is_in ns n) heads_bind) ∙ bound_once outline of_vars of_heads n heads_keep (ap (λ ns. is_in ns n) (vars_bind program.vars []) ∙ variable)

  bound_before_body : (n : List ℕ) → is_in (bound_by ((of_vars ++ of_heads) ++ of_inits)) n ≡ ((is_in (names_of program.vars) n || is_in head_names n) || is_scratch program n)
  bound_before_body n =
      ap (λ ns. is_in ns n) (flat_joined (λ (e : Entry). bound e.says) (of_vars ++ of_heads) of_inits)
      ∙ list_any-append (bytes_eq n) (bound_by (of_vars ++ of_heads)) (bound_by of_inits)
      ∙ ap (λ b. b || is_in (bound_by of_inits) n) (bound_before n)
      ∙ ap (λ ns. (is_in (names_of program.vars) n || is_in head_names n) || is_in ns n) (inits_bind program.scratch after_heads)

  -- a name that is bound before the body is bound by no line of it
  body_binds_none : (n : List ℕ) → ((is_in (names_of program.vars) n || is_in head_names n) || is_scratch program n) ≡ true → list_any (λ (e : Entry). is_in (bound e.says) n) of_body ≡ false
  body_binds_none n h = sym (gathered (λ (e : Entry). bound e.says) of_body n) ∙ bound_once outline ((of_vars ++ of_heads) ++ of_inits) of_body n body_keeps (bound_before_body n ∙ h)

  -- ---- what the names of the store are in scope as

  sorts_after_vars : (n : List ℕ) → sort_in after_vars n ≡ where_so (is_variable program n) Variable
  sorts_after_vars n = vars_grow n program.vars []

  sorts_after_heads : (n : List ℕ) → sort_in after_heads n ≡ or_later (where_so (is_variable program n) Variable) (where_so (is_in head_names n) LoopVariable)
  sorts_after_heads n = heads_grow n program.head program.head.inner after_vars ∙ ap (λ z. or_later z (where_so (is_in head_names n) LoopVariable)) (sorts_after_vars n)

  sorts_in_body : (n : List ℕ) →
      sort_in after_inits n ≡ or_later (or_later (where_so (is_variable program n) Variable) (where_so (is_in head_names n) LoopVariable)) (where_so (is_scratch program n) Scratch)
  sorts_in_body n = inits_grow n program.scratch after_heads ∙ ap (λ z. or_later z (where_so (is_scratch program n) Scratch)) (sorts_after_heads n)

  variable_sort : (n : List ℕ) → is_variable program n ≡ true → sort_in after_inits n ≡ Some Variable
  variable_sort n is =
      sorts_in_body n ∙ ap (λ b. or_later (or_later (where_so b Variable) (where_so (is_in head_names n) LoopVariable)) (where_so (is_scratch program n) Scratch)) is

  scratch_sort : (n : List ℕ) → is_scratch program n ≡ true → sort_in after_inits n ≡ Some Scratch
  scratch_sort n is =
      let apart = scratch_apart n is in
      sorts_in_body n
      ∙ ap (λ b. or_later (or_later (where_so b Variable) (where_so (is_in head_names n) LoopVariable)) (where_so (is_scratch program n) Scratch)) (first_false (is_variable program n) (is_in head_names n) apart)
      ∙ ap (λ b. or_later (where_so b LoopVariable) (where_so (is_scratch program n) Scratch)) (second_false (is_variable program n) (is_in head_names n) apart)
      ∙ ap (λ b. where_so b Scratch) is

  -- ---- rule 4: no path of a body run reaches a read of a scratch that some line assigns

  pub never_reached : (n : List ℕ) → is_scratch program n ≡ true → is_assigned outline n ≡ true → (line : ℕ) → is_reached (paths_of program) line n ≡ false
  never_reached n scratch assigned line =
      unless (is_reached (paths_of program) line n)
      (λ h. let told = all_statements_told program.body in
      not_both (list_any (reads_at line n) of_body) (told.reads after_inits line n h)
      (scratch_unread outline ((of_vars ++ of_heads) ++ of_inits) of_body n line body_keeps (told.known after_inits n Scratch (scratch_sort n scratch)) assigned h))

  -- ---- rules 1 and 5: an inner head reads no scratch

  -- what an inner head reads
  abbrev pub read_in_head : Inner → List (List ℕ)
  read_in_head i = flat_map names_read (range_bounds i.range)

  abbrev pub NoneRead : List ℕ → List Inner → Type 0
  NoneRead n inner = AllByRecursion (λ i. is_in (read_in_head i) n ≡ false) inner

  inner_unread : (n : List ℕ) (inner : List Inner) (before : List Entry) (scope : Scope) → sort_in scope n ≡ None → is_in (inner_names inner) n ≡ false →
      AllByRecursion (Keeps outline) (spots_after before (in_turn (map (inner_listing program.head) inner) scope)) → NoneRead n inner
  inner_unread n [] before scope none apart k = tt
  inner_unread n (i ∷ inner) before scope none apart k =
      let more : Scope = scope_after (inner_listing program.head i ∷ []) scope in
      let off : bytes_eq n i.name ≡ false = first_false (bytes_eq n i.name) (is_in (inner_names inner) n) apart in (
        unknown_unread outline _ n k.0 none,
        inner_unread n inner _ more (heads_none n i scope none off) (second_false (bytes_eq n i.name) (is_in (inner_names inner) n) apart) k.1,
      )
    where
      heads_none : (n : List ℕ) (i : Inner) (scope : Scope) → sort_in scope n ≡ None → bytes_eq n i.name ≡ false → sort_in (scope_after (inner_listing program.head i ∷ []) scope) n ≡ None
      heads_none n i scope none off = inner_grows n program.head i scope ∙ ap (λ z. or_later z (where_so (bytes_eq n i.name) LoopVariable)) none ∙ ap (λ b. where_so b LoopVariable) off

  -- a name of the head is none that the inner heads read
  heads_unread_at : (n : List ℕ) → is_variable program n ≡ false → is_in head_names n ≡ false → NoneRead n program.head.inner
  heads_unread_at n variable names =
      let both = sym (list_any-append (bytes_eq n) program.head.names (inner_names program.head.inner)) ∙ names in
      let own : is_in program.head.names n ≡ false = first_false (is_in program.head.names n) (is_in (inner_names program.head.inner) n) both in
      let inner : is_in (inner_names program.head.inner) n ≡ false = second_false (is_in program.head.names n) (is_in (inner_names program.head.inner) n) both in
      inner_unread n program.head.inner _ (scope_after (head_listing program.head ∷ []) after_vars)
      (pattern_grows n program.head after_vars ∙ ap (λ z. or_later z (where_so (is_in program.head.names n) LoopVariable)) (sorts_after_vars n ∙ ap (λ b. where_so b Variable) variable) ∙ ap (λ b. where_so b LoopVariable) own)
      inner heads_keep.1

  pub heads_unread : (n : List ℕ) → is_scratch program n ≡ true → NoneRead n program.head.inner
  heads_unread n scratch =
      let apart = scratch_apart n scratch in
      heads_unread_at n (first_false (is_variable program n) (is_in head_names n) apart) (second_false (is_variable program n) (is_in head_names n) apart)

  -- ---- rules 1 and 5: a name that isn't named isn't read

  -- what a name is that isn't named
  record Unnamed (n : List ℕ) : Type 0 where
    pub variable : is_variable program n ≡ false
    pub scratch : is_scratch program n ≡ false
    pub heads : is_in head_names n ≡ false
    pub body : is_in (all_assigned (map assigned_in program.body)) n ≡ false

  unnamed_is : (n : List ℕ) → is_named program n ≡ false → Unnamed n
  unnamed_is n e =
      let by = first_false (is_in (assigned_by program) n) (is_in (stored_names program) n) e in
      let stored = sym (list_any-append (bytes_eq n) (names_of program.vars) (names_of program.scratch)) ∙ second_false (is_in (assigned_by program) n) (is_in (stored_names program) n) e in
      let body : List (List ℕ) = all_assigned (map assigned_in program.body) in
      let rest = sym (list_any-append (bytes_eq n) head_names body) ∙ second_false (bytes_eq n place_name) (is_in (head_names ++ body) n) by in
      record {
        variable = first_false (is_variable program n) (is_scratch program n) stored;
        scratch = second_false (is_variable program n) (is_scratch program n) stored;
        heads = first_false (is_in head_names n) (is_in body n) rest;
        body = second_false (is_in head_names n) (is_in body n) rest;
      }

  pub unnamed_unread : (n : List ℕ) → is_named program n ≡ false → (line : ℕ) → is_reached (paths_of program) line n ≡ false
  unnamed_unread n e line =
      let is = unnamed_is n e in
      let none : sort_in after_inits n ≡ None =
      sorts_in_body n
      ∙ ap (λ b. or_later (or_later (where_so b Variable) (where_so (is_in head_names n) LoopVariable)) (where_so (is_scratch program n) Scratch)) is.variable
      ∙ ap (λ b. or_later (where_so b LoopVariable) (where_so (is_scratch program n) Scratch)) is.heads
      ∙ ap (λ b. where_so b Scratch) is.scratch in
      unless (is_reached (paths_of program) line n)
      (λ h. let told = all_statements_told program.body in
      not_both (list_any (reads_at line n) of_body) (told.reads after_inits line n h)
      (none_unread outline ((of_vars ++ of_heads) ++ of_inits) of_body n line body_keeps (told.hides after_inits n none is.body)))

  pub unnamed_heads : (n : List ℕ) → is_named program n ≡ false → NoneRead n program.head.inner
  unnamed_heads n e = let is = unnamed_is n e in heads_unread_at n is.variable is.heads

  -- ---- rules 2 and 3: a step neither binds nor assigns a name that lasts

  unassigned_in : (n : List ℕ) → is_assigned outline n ≡ false → list_any (λ (e : Entry). is_in (assigned e.says) n) of_body ≡ false
  unassigned_in n h =
      let all : list_any (λ (e : Entry). is_in (assigned e.says) n) ((((of_vars ++ of_heads) ++ of_inits) ++ of_body) ++ of_prints) ≡ false =
      ap (list_any (λ (e : Entry). is_in (assigned e.says) n)) (sym entries_are) ∙ sym (gathered (λ (e : Entry). assigned e.says) (entries_of program) n) ∙ h in
      let some : list_any (λ (e : Entry). is_in (assigned e.says) n) (((of_vars ++ of_heads) ++ of_inits) ++ of_body) ≡ false =
      first_false _ (list_any (λ (e : Entry). is_in (assigned e.says) n) of_prints)
      (sym (list_any-append (λ (e : Entry). is_in (assigned e.says) n) (((of_vars ++ of_heads) ++ of_inits) ++ of_body) of_prints) ∙ all) in
      second_false (list_any (λ (e : Entry). is_in (assigned e.says) n) ((of_vars ++ of_heads) ++ of_inits)) _ (sym (list_any-append (λ (e : Entry). is_in (assigned e.says) n) ((of_vars ++ of_heads) ++ of_inits) of_body) ∙ some)

  body_names_none : (n : List ℕ) → list_any (names_at n) of_body ≡ false → is_in (all_assigned (map assigned_in program.body)) n ≡ false
  body_names_none n h =
      unless (is_in (all_assigned (map assigned_in program.body)) n)
      (λ g. not_both (list_any (names_at n) of_body) ((all_statements_told program.body).binds after_inits n g) h)

  none_assigned : (n : List ℕ) → bytes_eq n place_name ≡ false → is_in head_names n ≡ false → list_any (names_at n) of_body ≡ false → IsNoneOf n (assigned_by program)
  none_assigned n place heads body =
      let names : IsNoneOf n (program.head.names ++ inner_names program.head.inner) = none_of n head_names heads in
      let lines : IsNoneOf n (all_assigned (map assigned_in program.body)) = none_of n _ (body_names_none n body) in
      let placed : n ≢ place_name = (none_of n (place_name ∷ []) (ap (λ b. b || false) place)).0 in
      (placed, none_of_both n head_names (all_assigned (map assigned_in program.body)) names lines)

  variable_lasts : (n : List ℕ) → is_variable program n ≡ true → bytes_eq n place_name ≡ false → IsNoneOf n (assigned_by program)
  variable_lasts n is place =
      none_assigned n place (variable_no_head n is)
      (unnamed of_body n (body_binds_none n (ap (λ b. (b || is_in head_names n) || is_scratch program n) is))
      (variable_stays outline ((of_vars ++ of_heads) ++ of_inits) of_body n body_keeps ((all_statements_told program.body).known after_inits n Variable (variable_sort n is))))

  scratch_lasts : (n : List ℕ) → is_scratch program n ≡ true → is_assigned outline n ≡ false → bytes_eq n place_name ≡ false → IsNoneOf n (assigned_by program)
  scratch_lasts n is un place =
      none_assigned n place (second_false (is_variable program n) (is_in head_names n) (scratch_apart n is))
      (unnamed of_body n (body_binds_none n (or_last (is_in (names_of program.vars) n || is_in head_names n) (is_scratch program n) is)) (unassigned_in n un))
    where
      or_last : (a b : Bool) → b ≡ true → (a || b) ≡ true
      or_last true b e = refl
      or_last false b e = e

  lasts : (n : List ℕ) (v s a p : Bool) → is_variable program n ≡ v → is_scratch program n ≡ s → is_assigned outline n ≡ a → bytes_eq n place_name ≡ p → ((v || (s && not a)) && not p) ≡ true →
      IsNoneOf n (assigned_by program)
  lasts n true s a false vs ss us ps e = variable_lasts n vs ps
  lasts n false true false false vs ss us ps e = scratch_lasts n ss us ps
  lasts n false true true false vs ss us ps e = absurd (cc)
  lasts n false false a false vs ss us ps e = absurd (cc)
  lasts n v s a true vs ss us ps e = absurd (never (v || (s && not a)) e)
    where
      never : (b : Bool) → (b && false) ≡ true → ⊥
      never true e = absurd (cc)
      never false e = absurd (cc)

  pub lasting_untouched : (n : List ℕ) → is_lasting program n ≡ true → IsNoneOf n (assigned_by program)
  lasting_untouched n is = lasts n (is_variable program n) (is_scratch program n) (is_assigned outline n) (bytes_eq n place_name) refl refl refl refl is

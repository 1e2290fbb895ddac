-- What the entries of a program say of its parts: which names are in scope before its body, that they came into scope once, and that
-- the lines of the body fit.
use Rattle.std.proofs.Common.{◌≡◌, true, List, [], ◌∷◌, ◌++◌, map, Some, refl, ap, sym, ◌∙◌, subst, append_assoc, append-nil}
use Rattle.std.specs.List.{AllByRecursion}
use Rattle.loop_data.specs.declared.value.ValueKind.TheVariants as kind
use Rattle.loop_data.specs.declared.head.Inner.{Inner}
use Rattle.loop_grammar.specs.declared.tree.ProgramTree.{ProgramTree}
use Rattle.legality_rules.specs.declared.scope.Known.{Known}
use Rattle.legality_rules.specs.declared.scope.Sort.TheVariants.{Variable, LoopVariable, Scratch}
use Rattle.legality_rules.specs.Cuts.{scope_after}
use Rattle.legality_rules.specs.Lines.{Entry, Listing, entries_of, head_listing, in_turn, init_listing, inner_listing, print_listing, statement_listing, var_listing}
use Rattle.legality_rules.specs.Rules.{items_fit}
use Rattle.legality_rules.specs.Scopes.{Scope, item_kind, known_as, pattern_kinds, pattern_known}
use Rattle.legality_rules.proofs.CutLemmas.{entries_of_two}
use Rattle.fitting_inputs.specs.Fitting.{AreFresh, EntryFits, Test}
use Rattle.fitting_inputs.proofs.FreshNames.{ComeFresh, IsNew, all_back, all_front, fresh_joined, lone_new, names_fresh, pattern_names}
use Rattle.fitting_inputs.proofs.StoreLemmas.{literal_known}

-- ---- lines each of which brings one name into scope

module _ {X : Type 0} (listing : X → Listing) (known : X → Known) (brings : (x : X) (scope : Scope) → (listing x scope).scope ≡ scope ++ known x ∷ []) where
  pub scope_of_lines : (xs : List X) (scope : Scope) → scope_after (map listing xs) scope ≡ scope ++ map known xs
  scope_of_lines [] scope = sym (append-nil scope)
  scope_of_lines (x ∷ xs) scope =
      scope_of_lines xs (listing x scope).scope
      ∙ ap (λ s. s ++ map known xs) (brings x scope)
      ∙ append_assoc scope (known x ∷ []) (map known xs)

  module _ (test : Test) (new : (x : X) (scope : Scope) → AllByRecursion (EntryFits test) (listing x scope).entries → IsNew scope (known x).name) where
    pub lines_fresh : (xs : List X) (scope : Scope) → AllByRecursion (EntryFits test) (in_turn (map listing xs) scope) → ComeFresh scope (map known xs)
    lines_fresh [] scope fit = tt
    lines_fresh (x ∷ xs) scope fit =
        let here = all_front (EntryFits test) (listing x scope).entries (in_turn (map listing xs) (listing x scope).scope) fit in
        let there = all_back (EntryFits test) (listing x scope).entries (in_turn (map listing xs) (listing x scope).scope) fit in
        (new x scope here, subst (λ s. ComeFresh s (map known xs)) (brings x scope) (lines_fresh xs (listing x scope).scope there))

-- ---- the parts of a program before its body

abbrev pub inner_known : Inner → Known
inner_known i = known_as LoopVariable i.name (Some kind.Int)

abbrev pub of_vars : ProgramTree → Scope
of_vars program = map (literal_known Variable) program.vars

abbrev pub of_pattern : ProgramTree → Scope
of_pattern program = pattern_known LoopVariable program.head.names (item_kind program.head.product program.head.axes)

abbrev pub of_inner : ProgramTree → Scope
of_inner program = map inner_known program.head.inner

abbrev pub of_scratches : ProgramTree → Scope
of_scratches program = map (literal_known Scratch) program.scratch

-- the names in scope after the pattern, after all heads, and before the body
abbrev pub after_pattern : ProgramTree → Scope
after_pattern program = of_vars program ++ of_pattern program

abbrev pub after_heads : ProgramTree → Scope
after_heads program = after_pattern program ++ of_inner program

abbrev pub before_body : ProgramTree → Scope
before_body program = after_heads program ++ of_scratches program

-- what a program's entries say, where they fit
pub record PartsFit (test : Test) (program : ProgramTree) : Type 0 where
  pub fresh : ComeFresh [] (before_body program)
  pub takes : items_fit program.head.names (item_kind program.head.product program.head.axes) ≡ true
  pub body : AllByRecursion (EntryFits test) (in_turn (map statement_listing program.body) (before_body program))

scope_of_two : (xs ys : List Listing) (scope : Scope) → scope_after (xs ++ ys) scope ≡ scope_after ys (scope_after xs scope)
scope_of_two [] ys scope = refl
scope_of_two (x ∷ xs) ys scope = scope_of_two xs ys (scope_after (x ∷ []) scope)

-- what holds of each entry of listings one after another holds of those of the first
front_holds : (P : Entry → Type 0) (xs ys : List Listing) (scope : Scope) → AllByRecursion P (in_turn (xs ++ ys) scope) → AllByRecursion P (in_turn xs scope)
front_holds P xs ys scope all = all_front P (in_turn xs scope) (in_turn ys (scope_after xs scope)) (subst (AllByRecursion P) (entries_of_two xs ys scope) all)

-- and of those of the others, from the names in scope after the first
back_holds : (P : Entry → Type 0) (xs ys : List Listing) (scope : Scope) → AllByRecursion P (in_turn (xs ++ ys) scope) → AllByRecursion P (in_turn ys (scope_after xs scope))
back_holds P xs ys scope all = all_back P (in_turn xs scope) (in_turn ys (scope_after xs scope)) (subst (AllByRecursion P) (entries_of_two xs ys scope) all)

module _ (program : ProgramTree) where
  abbrev vars : List Listing
  vars = map var_listing program.vars

  abbrev inner : List Listing
  inner = map (inner_listing program.head) program.head.inner

  abbrev heads : List Listing
  heads = head_listing program.head ∷ inner

  abbrev scratches : List Listing
  scratches = map init_listing program.scratch

  abbrev statements : List Listing
  statements = map statement_listing program.body

  vars_scope : (scope : Scope) → scope_after vars scope ≡ scope ++ of_vars program
  vars_scope scope = scope_of_lines var_listing (literal_known Variable) (λ b s. refl) program.vars scope

  inner_scope : (scope : Scope) → scope_after inner scope ≡ scope ++ of_inner program
  inner_scope scope = scope_of_lines (inner_listing program.head) inner_known (λ i s. refl) program.head.inner scope

  scratches_scope : (scope : Scope) → scope_after scratches scope ≡ scope ++ of_scratches program
  scratches_scope scope = scope_of_lines init_listing (literal_known Scratch) (λ b s. refl) program.scratch scope

  before_scratches : scope_after (vars ++ heads) [] ≡ after_heads program
  before_scratches = scope_of_two vars heads [] ∙ ap (scope_after heads) (vars_scope []) ∙ inner_scope (after_pattern program)

  body_scope : scope_after ((vars ++ heads) ++ scratches) [] ≡ before_body program
  body_scope = scope_of_two (vars ++ heads) scratches [] ∙ ap (scope_after scratches) before_scratches ∙ scratches_scope (after_heads program)

  -- What holds of each entry of a program, part by part: of its `var` lines, of its heads after the names of these, of its `@init`
  -- lines after its heads, and of its body after all of these.
  pub record PartsHold (P : Entry → Type 0) : Type 0 where
    pub on_vars : AllByRecursion P (in_turn vars [])
    pub on_heads : AllByRecursion P (in_turn heads (of_vars program))
    pub on_scratches : AllByRecursion P (in_turn scratches (after_heads program))
    pub on_body : AllByRecursion P (in_turn statements (before_body program))

  pub parts_hold : (P : Entry → Type 0) → AllByRecursion P (entries_of program) → PartsHold P
  parts_hold P all =
      let to_body = front_holds P (((vars ++ heads) ++ scratches) ++ statements) (map print_listing program.prints) [] all in
      let to_scratches = front_holds P ((vars ++ heads) ++ scratches) statements [] to_body in
      let to_heads = front_holds P (vars ++ heads) scratches [] to_scratches in
      record {
        on_vars = front_holds P vars heads [] to_heads;
        on_heads = subst (λ s. AllByRecursion P (in_turn heads s)) (vars_scope []) (back_holds P vars heads [] to_heads);
        on_scratches = subst (λ s. AllByRecursion P (in_turn scratches s)) before_scratches (back_holds P (vars ++ heads) scratches [] to_scratches);
        on_body = subst (λ s. AllByRecursion P (in_turn statements s)) body_scope (back_holds P ((vars ++ heads) ++ scratches) statements [] to_body);
      }

module _ (test : Test) (program : ProgramTree) where
  abbrev Fit : List Entry → Type 0
  Fit entries = AllByRecursion (EntryFits test) entries

  vars_fresh : (scope : Scope) → Fit (in_turn (vars program) scope) → ComeFresh scope (of_vars program)
  vars_fresh scope fit = lines_fresh var_listing (literal_known Variable) (λ b s. refl) test (λ b s fits. lone_new s b.name fits.0.says) program.vars scope fit

  inner_fresh : (scope : Scope) → Fit (in_turn (inner program) scope) → ComeFresh scope (of_inner program)
  inner_fresh scope fit = lines_fresh (inner_listing program.head) inner_known (λ i s. refl) test (λ i s fits. lone_new s i.name fits.0.says) program.head.inner scope fit

  scratches_fresh : (scope : Scope) → Fit (in_turn (scratches program) scope) → ComeFresh scope (of_scratches program)
  scratches_fresh scope fit = lines_fresh init_listing (literal_known Scratch) (λ b s. refl) test (λ b s fits. lone_new s b.name fits.0.says) program.scratch scope fit

  -- the pattern's names come into scope together
  pattern_fresh : (scope : Scope) → AreFresh scope program.head.names → ComeFresh scope (of_pattern program)
  pattern_fresh scope fresh =
      names_fresh scope (of_pattern program)
      (subst (AreFresh scope) (sym (pattern_names LoopVariable program.head.names (pattern_kinds program.head.names (item_kind program.head.product program.head.axes)))) fresh)

  pub parts_fit : Fit (entries_of program) → PartsFit test program
  parts_fit fit =
      let parts = parts_hold program (EntryFits test) fit in
      let two : ComeFresh [] (after_pattern program) =
      fresh_joined [] (of_vars program) (of_pattern program) (vars_fresh [] parts.on_vars) (pattern_fresh (of_vars program) parts.on_heads.0.says.0) in
      let three : ComeFresh [] (after_heads program) =
      fresh_joined [] (after_pattern program) (of_inner program) two (inner_fresh (after_pattern program) parts.on_heads.1) in
      record {
        fresh = fresh_joined [] (after_heads program) (of_scratches program) three (scratches_fresh (after_heads program) parts.on_scratches);
        takes = parts.on_heads.0.says.1;
        body = parts.on_body;
      }

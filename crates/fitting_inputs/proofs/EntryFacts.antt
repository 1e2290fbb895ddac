-- The entries of a legal program fit: what each says fits the names in scope there, and what it emits fits its reducer.
use Rattle.std.proofs.Common.{◌≡◌, ℕ, Bool, true, false, List, [], ◌∷◌, ◌++◌, Option, Some, None, Ok, Err, refl, ap, sym, ◌∙◌, subst}
use Rattle.std.specs.Prelude.{not, ◌&&◌, ◌||◌, flat_map, if◌then◌else◌, is_some}
use Rattle.std.specs.List.{list_all, AllByRecursion}
use Rattle.std.specs.Str.{bytes_eq}
use Rattle.std.proofs.lemmas.Bool.{and_from}
use Rattle.std.proofs.lemmas.List.Folds.{list_any-append}
use Rattle.loop_data.specs.declared.value.Value.{Value}
use Rattle.loop_data.specs.declared.value.ValueKind.{ValueKind}
use Rattle.loop_data.specs.declared.tower.TowerExpr.{TowerExpr}
use Rattle.loop_grammar.specs.declared.tree.ProgramTree.{ProgramTree}
use Rattle.loop_grammar.specs.Texts.{SpellsProgram}
use Rattle.loop_grammar.specs.WellFormed.{is_name}
use Rattle.loop_syntax.proofs.WellFormedTexts.{programs_are_well_formed}
use Rattle.loop_values.specs.Bindings.{place_name}
use Rattle.loop_values.specs.Kinds.{AreWellFormed, is_int}
use Rattle.loop_values.proofs.EntryLemmas.{same_text}
use Rattle.tower_inputs.specs.InputKinds.{InputKinds, kinds_of_input}
use Rattle.tower_inputs.specs.Towers.{kind_of_tower}
use Rattle.tower_inputs.proofs.InputFits.{input_fits}
use Rattle.legality_rules.specs.declared.scope.Known.{Known}
use Rattle.legality_rules.specs.Laws.{KeepsRules}
use Rattle.legality_rules.specs.Lines.{Entry, Form, assigned, axis_bounds, bound, condition, entries_of, first_head, init_line, inner_head, keep_line, let_line, print_line, reduce_line, set_line, var_line}
use Rattle.legality_rules.specs.Offences.{IsLegal, spots_after}
use Rattle.legality_rules.specs.Rules.{Spot, allowed, bound_by, has_kind, inputs_fit, items_fit, keeps_kinds, may_start, names_bound_twice, outline_of, reduced_by, repeated, rules}
use Rattle.legality_rules.specs.Scopes.{Scope, is_in, is_known, item_kind, kinds_in, look_up, sort_in, sort_of}
use Rattle.legality_rules.specs.Towers.{input_kinds, where_given}
use Rattle.legality_rules.proofs.FirstLemmas.{left_true, right_true}
use Rattle.legality_rules.proofs.RuleLemmas.{legal_keeps, legal_kinds}
use Rattle.legality_check.proofs.FormedScopes.{EntriesFormed, formed_kinds, scopes_formed}
use Rattle.carries_nothing.proofs.SameNames.{first_false, second_false}
use Rattle.fitting_inputs.specs.Fitting.{AreFresh, EntryFits, FormFits, InputsPass, are_new}
use Rattle.fitting_inputs.specs.ReduceLines.{ReduceLine, fits_kind, fits_reducer, kind_among, reduce_lines, reducer_kind}
use Rattle.fitting_inputs.proofs.EntrySpots.{IsSound, entries_sound}
use Rattle.fitting_inputs.proofs.ReduceEntries.{line_at}
use Rattle.fitting_inputs.proofs.ReducerFacts.{Agrees, spots_agree}

-- ---- names that an entry binds

left_empty : {X : Type 0} (xs ys : List X) → xs ++ ys ≡ [] → xs ≡ []
left_empty [] ys e = refl
left_empty (x ∷ xs) ys e = absurd (cc)

right_empty : {X : Type 0} (xs ys : List X) → xs ++ ys ≡ [] → ys ≡ []
right_empty [] ys e = e
right_empty (x ∷ xs) ys e = absurd (cc)

none_chosen : (b : Bool) (n : List ℕ) → (if b then n ∷ [] else []) ≡ [] → b ≡ false
none_chosen true n e = absurd (cc)
none_chosen false n e = refl

-- the first of names none of which is repeated isn't among those before it
first_once : (before : List (List ℕ)) (n : List ℕ) (ns : List (List ℕ)) → repeated before (n ∷ ns) ≡ [] → is_in before n ≡ false
first_once before n ns e = none_chosen (is_in before n) n (left_empty (if is_in before n then n ∷ [] else []) (repeated (before ++ n ∷ []) ns) e)

later_once : (before : List (List ℕ)) (n : List ℕ) (ns : List (List ℕ)) → repeated before (n ∷ ns) ≡ [] → repeated (before ++ n ∷ []) ns ≡ []
later_once before n ns e = right_empty (if is_in before n then n ∷ [] else []) (repeated (before ++ n ∷ []) ns) e

-- a name that isn't among more names isn't among fewer
abbrev Fewer : List (List ℕ) → List (List ℕ) → Type 0
Fewer less more = (n : List ℕ) → is_in more n ≡ false → is_in less n ≡ false

fewer_with : (less more : List (List ℕ)) (m : List ℕ) → Fewer less more → Fewer (less ++ m ∷ []) (more ++ m ∷ [])
fewer_with less more m fewer n e =
    let both : (is_in more n || is_in (m ∷ []) n) ≡ false = sym (list_any-append (bytes_eq n) more (m ∷ [])) ∙ e in
    list_any-append (bytes_eq n) less (m ∷ [])
    ∙ ap (λ b. b || is_in (m ∷ []) n) (fewer n (first_false (is_in more n) (is_in (m ∷ []) n) both))
    ∙ second_false (is_in more n) (is_in (m ∷ []) n) both

-- names none of which is repeated behind some names are so behind fewer
fewer_repeated : (less more ns : List (List ℕ)) → Fewer less more → repeated more ns ≡ [] → repeated less ns ≡ []
fewer_repeated less more [] fewer e = refl
fewer_repeated less more (n ∷ ns) fewer e =
    ap (λ b. (if b then n ∷ [] else []) ++ repeated (less ++ n ∷ []) ns) (fewer n (first_once more n ns e))
    ∙ fewer_repeated (less ++ n ∷ []) (more ++ n ∷ []) ns (fewer_with less more n fewer) (later_once more n ns e)

-- a name isn't `place`
not_place : (n : List ℕ) → is_name n ≡ true → bytes_eq n place_name ≡ false
not_place n e = at (bytes_eq n place_name) refl
  where
    at : (b : Bool) → bytes_eq n place_name ≡ b → bytes_eq n place_name ≡ false
    at false is = is
    at true is = absurd (let yes : is_name place_name ≡ true = subst (λ z. is_name z ≡ true) (same_text n place_name is) e in cc)

unknown : (known : Option Known) → sort_of known ≡ None → is_some known ≡ false
unknown (Some known) e = absurd (cc)
unknown None e = refl

-- names that are neither repeated nor among those that may be in scope are new
names_new : (scope : Scope) (before ns : List (List ℕ)) → ((n : List ℕ) → is_in before n ≡ false → sort_in scope n ≡ None) → list_all is_name ns ≡ true → repeated before ns ≡ [] →
    are_new scope ns ≡ true
names_new scope before [] only names e = refl
names_new scope before (n ∷ ns) only names e =
    let hidden : is_known scope n ≡ false = unknown (look_up scope n) (only n (first_once before n ns e)) in
    let other : bytes_eq n place_name ≡ false = not_place n (left_true (is_name n) (list_all is_name ns) names) in
    and_from (not (is_known scope n) && not (bytes_eq n place_name)) (are_new scope ns)
    (and_from (not (is_known scope n)) (not (bytes_eq n place_name)) (ap not hidden) (ap not other))
    (names_new scope (before ++ n ∷ []) ns
    (λ m h. only m (first_false (is_in before m) (is_in (n ∷ []) m) (sym (list_any-append (bytes_eq m) before (n ∷ [])) ∙ h)))
    (right_true (is_name n) (list_all is_name ns) names) (later_once before n ns e))

-- rule 2: what an entry binds is fresh
fresh_at : (spot : Spot) → IsSound spot → repeated (bound_by spot.earlier ++ reduced_by spot.earlier) (bound spot.here.says) ≡ [] → AreFresh spot.here.scope (bound spot.here.says)
fresh_at spot sound e =
    let before : List (List ℕ) = bound_by spot.earlier ++ reduced_by spot.earlier in
    let only : (n : List ℕ) → is_in before n ≡ false → sort_in spot.here.scope n ≡ None = λ n h.
    sound.only n (first_false (is_in (bound_by spot.earlier) n) (is_in (reduced_by spot.earlier) n) (sym (list_any-append (bytes_eq n) (bound_by spot.earlier) (reduced_by spot.earlier)) ∙ h)) in
    record { new = names_new spot.here.scope before (bound spot.here.says) only sound.binds e; once = fewer_repeated [] before (bound spot.here.says) (λ n h. refl) e }

-- ---- inputs

-- a tower whose inputs fit has kinds of them
pub given : (start : Option Value) (r : InputKinds) → inputs_fit start (where_given r) ≡ true → (xs : List ValueKind) × (r ≡ Ok xs)
given start (Ok xs) e = (xs, refl)
given None (Err s) e = absurd (cc)
given (Some v) (Err s) e = absurd (cc)

-- each input of an `@reduce` line whose name has the kind of its tower fits the reducer
inputs_pass : (program : ProgramTree) (scope : Scope) (n : List ℕ) (tower : TowerExpr) (start : Option Value) → AreWellFormed (kinds_in scope) →
    inputs_fit start (input_kinds tower (kinds_in scope)) ≡ true → reducer_kind program n ≡ Some (kind_of_tower tower) → InputsPass (fits_reducer program) scope n tower
inputs_pass program scope n tower start formed e agrees env input agree place is =
    let g = given start (kinds_of_input tower (kinds_in scope)) e in
    ap (λ z. fits_kind z input) agrees ∙ input_fits tower (kinds_in scope) env g.0 input formed agree place g.1 is

-- ---- entries

module _ (program : ProgramTree) (spot : Spot) (formed : AreWellFormed (kinds_in spot.here.scope)) where
  at_form : (form : Form) → AreFresh spot.here.scope (bound form) → list_all is_name (assigned form) ≡ true → keeps_kinds spot form ≡ true →
      AllByRecursion (λ (line : ReduceLine). kind_among (reduce_lines program) line.name ≡ Some line.kind) (line_at form) → FormFits (fits_reducer program) spot.here.scope form
  at_form (var_line n v) fresh names kinds agrees = fresh
  at_form (first_head ns axes product) fresh names kinds agrees =
      (fresh, right_true (list_all (has_kind spot is_int) (flat_map axis_bounds axes)) (items_fit ns (item_kind product axes)) kinds)
  at_form (inner_head n range) fresh names kinds agrees = fresh
  at_form (init_line n v) fresh names kinds agrees = fresh
  at_form (let_line ns x) fresh names kinds agrees = (fresh, kinds)
  at_form (set_line n x) fresh names kinds agrees =
      ((λ is. absurd (let yes : (is_name place_name && true) ≡ true = subst (λ z. (is_name z && true) ≡ true) is names in cc)), kinds)
  at_form (condition x) fresh names kinds agrees = kinds
  at_form (keep_line n x) fresh names kinds agrees = (fresh, kinds)
  at_form (reduce_line n tower start) fresh names kinds agrees = inputs_pass program spot.here.scope n tower (allowed start (may_start spot n tower)) formed kinds agrees.0
  at_form (print_line n) fresh names kinds agrees = tt

-- what is known of an entry of a legal program
record Facts (program : ProgramTree) (spot : Spot) : Type 0 where
  pub formed : AreWellFormed (kinds_in spot.here.scope)
  pub sound : IsSound spot
  pub once : names_bound_twice (outline_of program) spot ≡ []
  pub kinds : keeps_kinds spot spot.here.says ≡ true
  pub agrees : Agrees (reduce_lines program) spot

fits_at : (program : ProgramTree) (spot : Spot) → Facts program spot → EntryFits (fits_reducer program) spot.here
fits_at program spot f =
    record { formed = f.formed; says = at_form program spot f.formed spot.here.says (fresh_at spot f.sound (left_empty _ _ (left_empty _ _ f.once))) f.sound.assigns f.kinds f.agrees }

-- the facts of each entry, one after another
all_facts : (program : ProgramTree) (before es : List Entry) → EntriesFormed es → AllByRecursion IsSound (spots_after before es) →
    AllByRecursion (KeepsRules (outline_of program) rules) (spots_after before es) → AllByRecursion (λ spot. keeps_kinds spot spot.here.says ≡ true) (spots_after before es) →
    AllByRecursion (Agrees (reduce_lines program)) (spots_after before es) → AllByRecursion (EntryFits (fits_reducer program)) es
all_facts program before [] w s r k a = tt
all_facts program before (e ∷ es) w s r k a = (
  fits_at program (record { earlier = before; here = e }) (record { formed = formed_kinds e.scope w.0; sound = s.0; once = r.0.1.0; kinds = k.0; agrees = a.0 }),
  all_facts program (before ++ e ∷ []) es w.1 s.1 r.1 k.1 a.1,
)

-- the entries of a legal program fit
pub legal_entries_fit : (text : List ℕ) (program : ProgramTree) → SpellsProgram text program → IsLegal program →
    AllByRecursion (EntryFits (fits_reducer program)) (entries_of program)
legal_entries_fit text program spelled legal =
    all_facts program [] (entries_of program) (scopes_formed spelled.nests (programs_are_well_formed text program spelled)) (entries_sound text program spelled)
    (legal_keeps program legal) (legal_kinds program legal) (spots_agree program legal)

-- The checks of lines find the first rule that their entry breaks, and keep the state.
use Rattle.std.proofs.Common.{◌≡◌, ℕ, Bool, true, false, List, [], ◌∷◌, ◌++◌, Option, Some, None, Result, Ok, Err, refl, sym, ◌∙◌, ap, subst, append-nil}
use Rattle.std.specs.Prelude.{◌||◌, if◌then◌else◌, filter}
use Rattle.std.specs.FinMap.{get}
use Rattle.std.specs.Option.{option_and_then}
use Rattle.loop_data.specs.declared.value.ValueKind.{ValueKind, out-ValueKind}
use Rattle.loop_data.specs.declared.value.ValueKind.TheOpen.{ValueKind-F, ValueKind-F as kf}
use Rattle.loop_data.specs.declared.expr.Expr.{Expr}
use Rattle.loop_data.specs.declared.head.Binding.{Binding}
use Rattle.loop_values.specs.Kinds.{Kinded, is_bool, is_maybe, is_maybe_at, kind_of, literal_kind}
use Rattle.loop_values.specs.NamesIn.{SameAt, names_read}
use Rattle.loop_values.proofs.KindNames.{settled}
use Rattle.legality_rules.specs.declared.refusal.Offence.{Offence}
use Rattle.legality_rules.specs.declared.refusal.LegalRefusal.{LegalRefusal}
use Rattle.legality_rules.specs.declared.scope.Sort.{Sort}
use Rattle.legality_rules.specs.declared.scope.Sort.TheVariants.{Local, Scratch, Variable}
use Rattle.legality_rules.specs.Scopes.{Scope, fits_pattern, found, is_in, is_loop_variable, is_variable, kinds_in, known_as, one_by_one, pattern_known, pattern_parts, unwrapped, unwrapped_at}
use Rattle.legality_rules.specs.Lines.{Entry, Form, bound, condition, first_name, init_line, keep_line, let_line, set_line, var_line}
use Rattle.legality_rules.specs.Rules.{Outline, Spot, bound_by, is_of, names_bound_twice, passes, reduced_by, repeated, site_at, sites_in, unknown_names}
use Rattle.legality_rules.specs.Cuts.{or_else, first_named}
use Rattle.legality_lines.specs.declared.state.State.{State}
use Rattle.legality_names.specs.Answers.{answer, illegal, leftmost, named, and_then}
use Rattle.legality_lines.specs.Kinds.{kept_kind, kept_or, typed_pattern}
use Rattle.legality_lines.specs.LineChecks.{Checked, binding_checked, condition_checked, condition_word, keep_checked, let_checked, only_if, set_checked}
use Rattle.legality_names.specs.Names.{names_offence, of_sort, taken, unknown}
use Rattle.legality_lines.specs.States.{set_kind, with_each, with_name}
use Rattle.legality_names.proofs.NameLemmas.{one_of_both}
use Rattle.legality_names.proofs.FirstMet.{by_others, first_met}
use Rattle.legality_lines.proofs.Knowing.{KindMap, Kept, Knows, Covers, made, kept_as, knows_with, bound_each, bound_added, sites_added}
use Rattle.legality_lines.proofs.Going.{Goes, goes_line, goes_is, by_names, by_kinds, one_met, names_are, line_known, line_new, taken_is}

-- ---- names that a line binds are new

or_off : (a b : Bool) → (a || b) ≡ false → a ≡ false
or_off true b e = absurd (cc)
or_off false b e = refl

-- what isn't taken isn't bound
pub taken_covers : (before : List Entry) → Covers (bound_by before ++ reduced_by before) (bound_by before)
taken_covers before m e = or_off (is_in (bound_by before) m) (is_in (reduced_by before) m) (sym (one_of_both (bound_by before) (reduced_by before) m) ∙ e)

-- names that aren't bound twice, where nothing else is
pub two_nothings : (xs : List (List ℕ)) → xs ≡ xs ++ [] ++ []
two_nothings xs = sym (append-nil xs) ∙ sym (append-nil (xs ++ []))

pub none_twice : (xs : List (List ℕ)) → xs ++ [] ++ [] ≡ [] → xs ≡ []
none_twice xs e = two_nothings xs ∙ e

-- ---- a `let` line

module _ (outline : Outline) (before : List Entry) (scope : Scope) (kinds : KindMap) (knows : Knows kinds (bound_by before) scope) where
  abbrev state : State
  state = made (bound_by before) (sites_in before) scope kinds

  abbrev reducers : List (List ℕ)
  reducers = reduced_by outline.entries

  abbrev spot_of : ℕ → List ℕ → Form → Spot
  spot_of line called form = record { earlier = before; here = record { line = line; called = called; scope = scope; says = form } }

  abbrev with_entry : ℕ → List ℕ → Form → List Entry
  with_entry line called form = before ++ record { line = line; called = called; scope = scope; says = form } ∷ []

  -- the state as it was, after a line that binds nothing and reduces into nothing
  same_state : (line : ℕ) (called : List ℕ) (form : Form) → bound form ≡ [] → site_at scope form ≡ [] → Kept state (with_entry line called form) (scope ++ [])
  same_state line called form e f =
      let entry : Entry = record { line = line; called = called; scope = scope; says = form } in
      let P : Scope → Type 0 = λ z. Kept state (with_entry line called form) z in
      subst P (sym (append-nil scope))
      (kept_as state (bound_by before) (sites_in before) scope kinds (with_entry line called form)
      (sym (bound_added before entry ∙ ap (λ z. bound_by before ++ z) e ∙ append-nil (bound_by before)))
      (sym (sites_added before entry ∙ ap (λ z. sites_in before ++ z) f ∙ append-nil (sites_in before))) refl knows)

  fits_cases : (line : ℕ) (ns : List (List ℕ)) (x : Expr) (k : ValueKind) (t : Bool) → repeated (bound_by before ++ reduced_by before) ns ≡ [] →
      Goes (or_else (first_named 7 (spot_of line (first_name ns) (let_line ns x)) (if t then [] else first_name ns ∷ [])) None)
      (and_then (if t then Ok (pattern_parts ns k) else Err (illegal 7 line (first_name ns))) (λ ks. Ok (with_each Local ns ks state)))
      (with_entry line (first_name ns) (let_line ns x)) (scope ++ one_by_one Local ns (if t then pattern_parts ns k else []))
  fits_cases line ns x k true e =
      let after = bound_each Local ns (pattern_parts ns k) (bound_by before ++ reduced_by before) (bound_by before) (sites_in before) scope kinds knows (taken_covers before) e in
      let entry : Entry = record { line = line; called = first_name ns; scope = scope; says = let_line ns x } in (
        with_each Local ns (pattern_parts ns k) state,
        refl,
        kept_as (with_each Local ns (pattern_parts ns k) state) (bound_by before ++ ns) (sites_in before) (scope ++ one_by_one Local ns (pattern_parts ns k)) after.0 (before ++ entry ∷ [])
            (sym (bound_added before entry)) (sym (sites_added before entry ∙ append-nil (sites_in before))) after.1 after.2,
      )
  fits_cases line ns x k false e = refl

  let_kinds : (line : ℕ) (ns : List (List ℕ)) (x : Expr) (r : Kinded) → repeated (bound_by before ++ reduced_by before) ns ≡ [] →
      Goes (or_else (first_named 7 (spot_of line (first_name ns) (let_line ns x)) (if passes (fits_pattern ns) r then [] else first_name ns ∷ [])) None)
      (and_then (typed_pattern line ns (found r)) (λ ks. Ok (with_each Local ns ks state)))
      (with_entry line (first_name ns) (let_line ns x)) (scope ++ pattern_known Local ns (found r))
  let_kinds line ns x (Ok k) e = fits_cases line ns x k (fits_pattern ns k) e
  let_kinds line ns x (Err stop) e = refl

  pub let_goes : (line : ℕ) (ns : List (List ℕ)) (x : Expr) →
      Goes (first_met (by_others outline) before (record { line = line; called = first_name ns; scope = scope; says = let_line ns x } ∷ []))
      (let_checked reducers line ns x state) (with_entry line (first_name ns) (let_line ns x)) (scope ++ pattern_known Local ns (found (kind_of x (kinds_in scope))))
  let_goes line ns x =
      let spot = spot_of line (first_name ns) (let_line ns x) in
      let E = with_entry line (first_name ns) (let_line ns x) in
      let S = scope ++ pattern_known Local ns (found (kind_of x (kinds_in scope))) in
      let twice = repeated (taken (bound_by before) (sites_in before)) ns in
      let k : Checked = and_then (typed_pattern line ns (found (kind_of x (get kinds)))) (λ ks. Ok (with_each Local ns ks state)) in
      goes_is _ (or_else (by_names outline spot) (by_kinds outline spot)) (let_checked reducers line ns x state) (let_checked reducers line ns x state) E E S S
      (one_met outline before spot.here) refl refl refl
      (goes_line (by_names outline spot) (names_offence reducers scope line (names_read x) (leftmost twice) None) (by_kinds outline spot) k E S
      (names_are outline spot (unknown reducers scope (names_read x)) twice [] (filter (is_in reducers) (names_read x))
      (sym (append-nil (unknown reducers scope (names_read x))))
      (ap (λ z. repeated z ns) (taken_is before) ∙ two_nothings (repeated (bound_by before ++ reduced_by before) ns)) refl refl)
      (λ none.
      let new : repeated (bound_by before ++ reduced_by before) ns ≡ [] = none_twice (repeated (bound_by before ++ reduced_by before) ns) (line_new outline spot none) in
      let same : kind_of x (get kinds) ≡ kind_of x (kinds_in scope) = settled x (get kinds) (kinds_in scope) (line_known outline spot kinds (bound_by before) knows none) in
      let P : Kinded → Type 0 = λ r. Goes (by_kinds outline spot) (and_then (typed_pattern line ns (found r)) (λ ks. Ok (with_each Local ns ks state))) E S in
      subst P (sym same) (let_kinds line ns x (kind_of x (kinds_in scope)) new)))

  -- ---- a test on a line that binds nothing

  test_cases : (spot : Spot) (called : List ℕ) (k : Checked) (E : List Entry) (S : Scope) (t : Bool) → spot.here.called ≡ called → (t ≡ true → Goes None k E S) →
      Goes (or_else (first_named 7 spot (if t then [] else spot.here.called ∷ [])) None) (and_then (only_if t (illegal 7 spot.here.line called)) (λ _. k)) E S
  test_cases spot called k E S true e f = f refl
  test_cases spot called k E S false e f = ap (λ n. Err (illegal 7 spot.here.line n)) (sym e)

  pub set_goes : (line : ℕ) (n : List ℕ) (x : Expr) →
      Goes (first_met (by_others outline) before (record { line = line; called = n; scope = scope; says = set_line n x } ∷ []))
      (set_checked reducers line n x state) (with_entry line n (set_line n x)) (scope ++ [])
  set_goes line n x =
      let spot = spot_of line n (set_line n x) in
      let E = with_entry line n (set_line n x) in
      let names : List (List ℕ) = n ∷ names_read x in
      let k : Checked = and_then (only_if (passes (is_of (get kinds n)) (kind_of x (get kinds))) (illegal 7 line n)) (λ _. Ok state) in
      goes_is _ (or_else (by_names outline spot) (by_kinds outline spot)) (set_checked reducers line n x state) (set_checked reducers line n x state) E E (scope ++ []) (scope ++ [])
      (one_met outline before spot.here) refl refl refl
      (goes_line (by_names outline spot) (names_offence reducers scope line names (leftmost (of_sort is_loop_variable scope (n ∷ []))) (leftmost (of_sort is_variable scope (n ∷ [])))) (by_kinds outline spot) k E (scope ++ [])
      (names_are outline spot (unknown reducers scope names) (of_sort is_loop_variable scope (n ∷ [])) (of_sort is_variable scope (n ∷ [])) (filter (is_in reducers) names)
      (sym (append-nil (unknown reducers scope names))) refl refl refl)
      (λ none.
      let same : SameAt (get kinds) (kinds_in scope) names = line_known outline spot kinds (bound_by before) knows none in
      let eq : passes (is_of (get kinds n)) (kind_of x (get kinds)) ≡ passes (is_of (kinds_in scope n)) (kind_of x (kinds_in scope)) =
      ap (λ z. passes (is_of z) (kind_of x (get kinds))) same.0 ∙ ap (passes (is_of (kinds_in scope n))) (settled x (get kinds) (kinds_in scope) same.1) in
      let P : Bool → Type 0 = λ t. Goes (by_kinds outline spot) (and_then (only_if t (illegal 7 line n)) (λ _. Ok state)) E (scope ++ []) in
      subst P (sym eq) (test_cases spot n (Ok state) E (scope ++ []) (passes (is_of (kinds_in scope n)) (kind_of x (kinds_in scope))) refl
      (λ _. (state, refl, same_state line n (set_line n x) refl refl)))))

  -- a condition, and what follows it
  pub condition_goes : (first : Bool) (line : ℕ) (x : Expr) (y : Option Offence) (k : Checked) (E : List Entry) (S : Scope) → Goes y k E S →
      let entry : Entry = record { line = line; called = condition_word first; scope = scope; says = condition x } in
      Goes (or_else (first_met (by_others outline) before (entry ∷ [])) y) (and_then (condition_checked reducers first line x state) (λ _. k)) E S
  condition_goes first line x y k E S go =
      let spot = spot_of line (condition_word first) (condition x) in
      let test : Checked = and_then (only_if (passes is_bool (kind_of x (get kinds))) (illegal 7 line (condition_word first))) (λ _. k) in
      let o = names_offence reducers scope line (names_read x) None None in
      goes_is _ (or_else (by_names outline spot) (or_else (by_kinds outline spot) y)) (and_then (condition_checked reducers first line x state) (λ _. k)) (and_then (answer o) (λ _. test)) E E S S
      (ap (λ z. or_else z y) (one_met outline before spot.here) ∙ three (by_names outline spot) (by_kinds outline spot) y)
      (tests_first o (only_if (passes is_bool (kind_of x (get kinds))) (illegal 7 line (condition_word first))) k) refl refl
      (goes_line (by_names outline spot) o (or_else (by_kinds outline spot) y) test E S
      (names_are outline spot (unknown reducers scope (names_read x)) [] [] (filter (is_in reducers) (names_read x)) (sym (append-nil (unknown reducers scope (names_read x)))) refl refl refl)
      (λ none.
      let same : passes is_bool (kind_of x (get kinds)) ≡ passes is_bool (kind_of x (kinds_in scope)) =
      ap (passes is_bool) (settled x (get kinds) (kinds_in scope) (line_known outline spot kinds (bound_by before) knows none)) in
      let P : Bool → Type 0 = λ t. Goes (or_else (by_kinds outline spot) y) (and_then (only_if t (illegal 7 line (condition_word first))) (λ _. k)) E S in
      subst P (sym same) (bool_cases spot (passes is_bool (kind_of x (kinds_in scope))))))
    where
      three : (a b c : Option Offence) → or_else (or_else a b) c ≡ or_else a (or_else b c)
      three None b c = refl
      three (Some o) b c = refl

      tests_first : (o : Option Offence) (r : Result (Unit {0}) LegalRefusal) (k : Checked) →
          and_then (and_then (answer o) (λ _. r)) (λ _. k) ≡ and_then (answer o) (λ _. and_then r (λ _. k))
      tests_first None r k = refl
      tests_first (Some o) r k = refl

      bool_cases : (spot : Spot) (t : Bool) → Goes (or_else (or_else (first_named 7 spot (if t then [] else spot.here.called ∷ [])) None) y) (and_then (only_if t (illegal 7 spot.here.line spot.here.called)) (λ _. k)) E S
      bool_cases spot true = go
      bool_cases spot false = refl

  -- ---- an `@keep` line

  bind_goes : (sort : Sort) (line : ℕ) (called : List ℕ) (form : Form) (n : List ℕ) (k : Option ValueKind) → bound form ≡ n ∷ [] → site_at scope form ≡ [] → is_in (bound_by before) n ≡ false →
      Kept (with_name sort n k state) (with_entry line called form) (scope ++ known_as sort n k ∷ [])
  bind_goes sort line called form n k e f new =
      let entry : Entry = record { line = line; called = called; scope = scope; says = form } in
      kept_as (with_name sort n k state) (bound_by before ++ n ∷ []) (sites_in before) (scope ++ known_as sort n k ∷ []) (set_kind n k kinds) (with_entry line called form)
      (sym (bound_added before entry ∙ ap (λ z. bound_by before ++ z) e)) (sym (sites_added before entry ∙ ap (λ z. sites_in before ++ z) f ∙ append-nil (sites_in before))) refl
      (knows_with kinds (bound_by before) scope sort n k knows new)

  keep_cases : (line : ℕ) (n : List ℕ) (x : Expr) (v : ValueKind-F ValueKind) → is_in (bound_by before) n ≡ false →
      Goes (or_else (first_named 7 (spot_of line n (keep_line n x)) (if is_maybe_at v then [] else n ∷ [])) None)
      (and_then (kept_or line n (unwrapped_at v)) (λ kind. Ok (with_name Local n (Some kind) state))) (with_entry line n (keep_line n x)) (scope ++ known_as Local n (unwrapped_at v) ∷ [])
  keep_cases line n x (kf.Maybe y) new = (with_name Local n (Some y) state, refl, bind_goes Local line n (keep_line n x) n (Some y) refl refl new)
  keep_cases line n x kf.Int new = refl
  keep_cases line n x kf.Bool new = refl
  keep_cases line n x kf.Text new = refl
  keep_cases line n x (kf.Tuple ks) new = refl

  keep_kinds : (line : ℕ) (n : List ℕ) (x : Expr) (r : Kinded) → is_in (bound_by before) n ≡ false →
      Goes (or_else (first_named 7 (spot_of line n (keep_line n x)) (if passes is_maybe r then [] else n ∷ [])) None)
      (and_then (kept_kind line n (found r)) (λ kind. Ok (with_name Local n (Some kind) state))) (with_entry line n (keep_line n x)) (scope ++ known_as Local n (option_and_then unwrapped (found r)) ∷ [])
  keep_kinds line n x (Ok k) new = keep_cases line n x (out-ValueKind k) new
  keep_kinds line n x (Err stop) new = refl

  -- one name that is bound
  one_taken : (t : Bool) (n : List ℕ) → (if t then n ∷ [] else []) ≡ (if t then n ∷ [] else []) ++ []
  one_taken true n = refl
  one_taken false n = refl

  one_new : (n : List ℕ) → repeated (bound_by before ++ reduced_by before) (n ∷ []) ≡ [] → is_in (bound_by before) n ≡ false
  one_new n e = taken_covers before n (off (is_in (bound_by before ++ reduced_by before) n) (sym (append-nil _) ∙ e))
    where
      off : (t : Bool) → (if t then n ∷ [] else []) ≡ [] → t ≡ false
      off true e = absurd (cc)
      off false e = refl

  pub taken_one : (n : List ℕ) → filter (is_in (taken (bound_by before) (sites_in before))) (n ∷ []) ≡ repeated (bound_by before ++ reduced_by before) (n ∷ []) ++ [] ++ []
  taken_one n =
      ap (λ z. filter (is_in z) (n ∷ [])) (taken_is before)
      ∙ one_taken (is_in (bound_by before ++ reduced_by before) n) n
      ∙ two_nothings (repeated (bound_by before ++ reduced_by before) (n ∷ []))

  pub keep_goes : (line : ℕ) (n : List ℕ) (x : Expr) →
      Goes (first_met (by_others outline) before (record { line = line; called = n; scope = scope; says = keep_line n x } ∷ []))
      (keep_checked reducers line n x state) (with_entry line n (keep_line n x)) (scope ++ known_as Local n (option_and_then unwrapped (found (kind_of x (kinds_in scope)))) ∷ [])
  keep_goes line n x =
      let spot = spot_of line n (keep_line n x) in
      let E = with_entry line n (keep_line n x) in
      let S = scope ++ known_as Local n (option_and_then unwrapped (found (kind_of x (kinds_in scope)))) ∷ [] in
      let twice = filter (is_in (taken (bound_by before) (sites_in before))) (n ∷ []) in
      let k : Checked = and_then (kept_kind line n (found (kind_of x (get kinds)))) (λ kind. Ok (with_name Local n (Some kind) state)) in
      goes_is _ (or_else (by_names outline spot) (by_kinds outline spot)) (keep_checked reducers line n x state) (keep_checked reducers line n x state) E E S S
      (one_met outline before spot.here) refl refl refl
      (goes_line (by_names outline spot) (names_offence reducers scope line (names_read x) (leftmost twice) None) (by_kinds outline spot) k E S
      (names_are outline spot (unknown reducers scope (names_read x)) twice [] (filter (is_in reducers) (names_read x))
      (sym (append-nil (unknown reducers scope (names_read x)))) (taken_one n) refl refl)
      (λ none.
      let new : is_in (bound_by before) n ≡ false = one_new n (none_twice (repeated (bound_by before ++ reduced_by before) (n ∷ [])) (line_new outline spot none)) in
      let same : kind_of x (get kinds) ≡ kind_of x (kinds_in scope) = settled x (get kinds) (kinds_in scope) (line_known outline spot kinds (bound_by before) knows none) in
      let P : Kinded → Type 0 = λ r. Goes (by_kinds outline spot) (and_then (kept_kind line n (found r)) (λ kind. Ok (with_name Local n (Some kind) state))) E S in
      subst P (sym same) (keep_kinds line n x (kind_of x (kinds_in scope)) new)))

  -- ---- `var` and `@init` lines

  binding_goes : (sort : Sort) (b : Binding) (form : Form) (none_else : (outline : Outline) → unknown_names outline (spot_of b.line b.name form) ≡ []) →
      bound form ≡ b.name ∷ [] → site_at scope form ≡ [] →
      names_bound_twice outline (spot_of b.line b.name form) ≡ repeated (bound_by before ++ reduced_by before) (b.name ∷ []) ++ [] ++ [] →
      by_names outline (spot_of b.line b.name form) ≡ named 2 b.line (leftmost (names_bound_twice outline (spot_of b.line b.name form))) →
      by_kinds outline (spot_of b.line b.name form) ≡ None →
      Goes (first_met (by_others outline) before (record { line = b.line; called = b.name; scope = scope; says = form } ∷ []))
      (binding_checked sort b state) (with_entry b.line b.name form) (scope ++ known_as sort b.name (found (literal_kind b.value)) ∷ [])
  binding_goes sort b form none_else e f two names kinds_none =
      let spot = spot_of b.line b.name form in
      let E = with_entry b.line b.name form in
      let S = scope ++ known_as sort b.name (found (literal_kind b.value)) ∷ [] in
      let twice = filter (is_in (taken (bound_by before) (sites_in before))) (b.name ∷ []) in
      goes_is _ (or_else (by_names outline spot) (by_kinds outline spot)) (binding_checked sort b state) (binding_checked sort b state) E E S S
      (one_met outline before spot.here) refl refl refl
      (goes_line (by_names outline spot) (named 2 b.line (leftmost twice)) (by_kinds outline spot) (Ok (with_name sort b.name (found (literal_kind b.value)) state)) E S
      (ap (λ z. named 2 b.line (leftmost z)) (taken_one b.name ∙ sym two) ∙ sym names)
      (λ none.
      let new : is_in (bound_by before) b.name ≡ false = one_new b.name (none_twice (repeated (bound_by before ++ reduced_by before) (b.name ∷ [])) (sym two ∙ line_new outline spot none)) in
      let P : Option Offence → Type 0 = λ z. Goes z (Ok (with_name sort b.name (found (literal_kind b.value)) state)) E S in
      subst P (sym kinds_none) (with_name sort b.name (found (literal_kind b.value)) state, refl, bind_goes sort b.line b.name form b.name (found (literal_kind b.value)) e f new)))

  two_alone : (spot : Spot) (ns : List (List ℕ)) → or_else (first_named 2 spot ns) None ≡ named 2 spot.here.line (leftmost ns)
  two_alone spot [] = refl
  two_alone spot (n ∷ ns) = refl

  pub var_goes : (b : Binding) →
      Goes (first_met (by_others outline) before (record { line = b.line; called = b.name; scope = scope; says = var_line b.name b.value } ∷ []))
      (binding_checked Variable b state) (with_entry b.line b.name (var_line b.name b.value)) (scope ++ known_as Variable b.name (found (literal_kind b.value)) ∷ [])
  var_goes b =
      binding_goes Variable b (var_line b.name b.value) (λ o. refl) refl refl refl
      (two_alone (spot_of b.line b.name (var_line b.name b.value)) (names_bound_twice outline (spot_of b.line b.name (var_line b.name b.value)))) refl

  pub init_goes : (b : Binding) →
      Goes (first_met (by_others outline) before (record { line = b.line; called = b.name; scope = scope; says = init_line b.name b.value } ∷ []))
      (binding_checked Scratch b state) (with_entry b.line b.name (init_line b.name b.value)) (scope ++ known_as Scratch b.name (found (literal_kind b.value)) ∷ [])
  init_goes b =
      binding_goes Scratch b (init_line b.name b.value) (λ o. refl) refl refl refl
      (two_alone (spot_of b.line b.name (init_line b.name b.value)) (names_bound_twice outline (spot_of b.line b.name (init_line b.name b.value)))) refl

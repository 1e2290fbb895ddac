-- The check of the `for` line goes on exactly where its heads break no rule.
use Rattle.std.proofs.Common.{◌≡◌, ℕ, Bool, true, false, List, [], ◌∷◌, ◌++◌, Option, Some, None, Ok, refl, sym, ◌∙◌, ap, subst, append_assoc, append-nil, map}
use Rattle.std.specs.Prelude.{◌&&◌, ◌||◌, if◌then◌else◌, codes}
use Rattle.std.specs.FinMap.{get}
use Rattle.std.specs.List.{list_all}
use Rattle.loop_data.specs.declared.value.ValueKind.{ValueKind}
use Rattle.loop_data.specs.declared.value.ValueKind.TheVariants as kind
use Rattle.loop_data.specs.declared.head.HeadLine.{HeadLine}
use Rattle.loop_data.specs.declared.head.Inner.{Inner}
use Rattle.legality_rules.specs.declared.refusal.Offence.{Offence}
use Rattle.legality_rules.specs.declared.scope.Sort.TheVariants.{LoopVariable}
use Rattle.legality_rules.specs.Scopes.{Scope, is_in, item_kind, kinds_in, known_as, one_by_one, pattern_kinds}
use Rattle.legality_rules.specs.Lines.{Entry, bound, first_name, in_turn, inner_listing}
use Rattle.legality_rules.specs.Rules.{Outline, bound_by, items_fit, reduced_by, repeated, site_at, sites_in}
use Rattle.legality_rules.specs.Cuts.{or_else, scope_after}
use Rattle.legality_lines.specs.declared.state.State.{State}
use Rattle.legality_names.specs.Answers.{answer, illegal, leftmost, named, and_then}
use Rattle.legality_lines.specs.HeadChecks.{are_ints, bounds_of_first, bounds_of_inner, head_checked, keeps_kinds, reducers_in, with_pattern}
use Rattle.legality_lines.specs.Kinds.{is_splittable_in}
use Rattle.legality_lines.specs.LineChecks.{Checked, only_if}
use Rattle.legality_names.specs.Names.{head_names, taken, unknown}
use Rattle.legality_lines.specs.States.{with_each}
use Rattle.legality_lines.specs.Walks.{Check}
use Rattle.legality_names.proofs.NameLemmas.{one_of_both}
use Rattle.legality_names.proofs.BaseScope.{inner_names, ints, scope_inner}
use Rattle.legality_lines.proofs.Knowing.{BoundEach, Covers, KindMap, Kept, Knows, made, kept_as, knows_front, bound_each}
use Rattle.legality_lines.proofs.Going.{Goes, answer_first, goes_if, goes_is, goes_line, taken_is}
use Rattle.legality_lines.proofs.LineLemmas.{taken_covers}
use Rattle.legality_names.proofs.FirstMet.{or_else_assoc}
use Rattle.legality_lines.proofs.HeadLemmas.{after_inner, by_line, first_entry, flat_joined, inner_entries, inner_unknown, keeps_all, keeps_inner, left_empty, named_joined, none_of, reads_in, repeated_joined, right_empty, scope_inside, scope_of_each, splits, splits_is}
use Rattle.legality_lines.proofs.HeadKinds.{first_ints, inner_same}

covers_names : (before bs ns : List (List ℕ)) → Covers before bs → Covers (before ++ ns) (bs ++ ns)
covers_names before bs ns c m h = one_of_both bs ns m ∙ both (is_in before m) (is_in bs m) (is_in ns m) (c m) (sym (one_of_both before ns m) ∙ h)
  where
    both : (a b c : Bool) → (a ≡ false → b ≡ false) → (a || c) ≡ false → (b || c) ≡ false
    both true b c f e = absurd (cc)
    both false b c f e = ap (λ z. z || c) (f refl) ∙ e

reordered : (fits first inner : Bool) → (fits && first && inner) ≡ ((first && fits) && inner)
reordered true true inner = refl
reordered true false inner = refl
reordered false true inner = refl
reordered false false inner = refl

-- the names in scope after inner heads
module _ (outline : Outline) (h : HeadLine) (before : List Entry) (scope : Scope) (kinds : KindMap) (knows : Knows kinds (bound_by before) scope) where
  abbrev reducers : List (List ℕ)
  reducers = reduced_by outline.entries

  abbrev item : Option ValueKind
  item = item_kind h.product h.axes

  abbrev state : State
  state = made (bound_by before) (sites_in before) scope kinds

  abbrev within : State
  within = with_pattern h.names item state

  abbrev after : State
  after = with_each LoopVariable (inner_names h.inner) (ints h.inner) within

  abbrev inside : Scope
  inside = scope_inside outline h before scope

  abbrev entries : List Entry
  entries = before ++ first_entry outline h before scope ∷ inner_entries outline h before scope

  abbrev end_scope : Scope
  end_scope = scope_after (map (inner_listing h) h.inner) inside

  abbrev taken_names : List (List ℕ)
  taken_names = bound_by before ++ reduced_by before

  -- ---- the state after the line

  abbrev After : Type 0
  After =
      (more : KindMap) × (after ≡ made ((bound_by before ++ h.names) ++ inner_names h.inner) (sites_in before) (inside ++ one_by_one LoopVariable (inner_names h.inner) (ints h.inner)) more)
      × Knows more ((bound_by before ++ h.names) ++ inner_names h.inner) (inside ++ one_by_one LoopVariable (inner_names h.inner) (ints h.inner))

  after_all : repeated taken_names (head_names h) ≡ [] → After
  after_all e =
      let parts : repeated taken_names h.names ++ repeated (taken_names ++ h.names) (inner_names h.inner) ≡ [] = sym (repeated_joined taken_names h.names (inner_names h.inner)) ∙ e in
      let one : BoundEach LoopVariable h.names (pattern_kinds h.names item) (bound_by before) (sites_in before) scope kinds =
      bound_each LoopVariable h.names (pattern_kinds h.names item) taken_names (bound_by before) (sites_in before) scope kinds knows (taken_covers before)
      (left_empty (repeated taken_names h.names) (repeated (taken_names ++ h.names) (inner_names h.inner)) parts) in
      let two : BoundEach LoopVariable (inner_names h.inner) (ints h.inner) (bound_by before ++ h.names) (sites_in before) inside one.0 =
      bound_each LoopVariable (inner_names h.inner) (ints h.inner) (taken_names ++ h.names) (bound_by before ++ h.names) (sites_in before) inside one.0 one.2
      (covers_names taken_names (bound_by before) h.names (taken_covers before))
      (right_empty (repeated taken_names h.names) (repeated (taken_names ++ h.names) (inner_names h.inner)) parts) in
      (two.0, ap (with_each LoopVariable (inner_names h.inner) (ints h.inner)) one.1 ∙ two.1, two.2)

  bound_inner : (is : List Inner) (sc : Scope) → bound_by (in_turn (map (inner_listing h) is) sc) ≡ inner_names is
  bound_inner [] sc = refl
  bound_inner (i ∷ is) sc = ap (λ z. i.name ∷ z) (bound_inner is (sc ++ known_as LoopVariable i.name (Some kind.Int) ∷ []))

  sites_inner : (is : List Inner) (sc : Scope) → sites_in (in_turn (map (inner_listing h) is) sc) ≡ []
  sites_inner [] sc = refl
  sites_inner (i ∷ is) sc = sites_inner is (sc ++ known_as LoopVariable i.name (Some kind.Int) ∷ [])

  bound_all : (bound_by before ++ h.names) ++ inner_names h.inner ≡ bound_by entries
  bound_all =
      append_assoc (bound_by before) h.names (inner_names h.inner)
      ∙ ap (λ z. bound_by before ++ (h.names ++ z)) (sym (bound_inner h.inner inside))
      ∙ sym (flat_joined (λ (e : Entry). bound e.says) before (first_entry outline h before scope ∷ inner_entries outline h before scope))

  sites_all : sites_in before ≡ sites_in entries
  sites_all =
      sym (flat_joined (λ (e : Entry). site_at e.scope e.says) before (first_entry outline h before scope ∷ inner_entries outline h before scope)
      ∙ ap (λ z. sites_in before ++ z) (sites_inner h.inner inside) ∙ append-nil (sites_in before))

  kept_after : After → Kept after entries end_scope
  kept_after a =
      let P : Scope → Type 0 = λ z. Kept after entries z in
      subst P (sym (scope_inner h h.inner inside))
      (kept_as after ((bound_by before ++ h.names) ++ inner_names h.inner) (sites_in before) (inside ++ one_by_one LoopVariable (inner_names h.inner) (ints h.inner)) a.0 entries bound_all sites_all a.1 a.2)

  -- ---- the check

  abbrev n1a : Option Offence
  n1a = named 1 h.line (leftmost (unknown reducers scope (reads_in (bounds_of_first h))))

  abbrev n1b : Option Offence
  n1b = named 1 h.line (leftmost (inner_unknown reducers h.inner inside))

  abbrev n2 : Option Offence
  n2 = named 2 h.line (leftmost (repeated taken_names (head_names h)))

  abbrev n5a : Option Offence
  n5a = named 5 h.line (leftmost (reducers_in reducers (bounds_of_first h)))

  abbrev n5b : Option Offence
  n5b = named 5 h.line (leftmost (reducers_in reducers (bounds_of_inner h)))

  abbrev seven : Offence
  seven = record { number = 7; line = h.line; name = first_name h.names }

  abbrev nine : Offence
  nine = record { number = 9; line = h.line; name = codes "for" }

  abbrev K : Bool
  K = keeps_all outline h before scope

  abbrev S9 : Bool
  S9 = splits outline h before scope

  abbrev rest7 : Option Offence
  rest7 = or_else (if K then None else Some seven) (or_else (if S9 then None else Some nine) None)

  line_split : by_line outline h before scope ≡ or_else n1a (or_else n1b (or_else n2 (or_else n5a (or_else n5b rest7))))
  line_split =
      let u = unknown reducers scope (reads_in (bounds_of_first h)) in
      let f = reducers_in reducers (bounds_of_first h) in
      ap (λ o. or_else o (or_else n2 (or_else (named 5 h.line (leftmost (f ++ reducers_in reducers (bounds_of_inner h)))) rest7))) (named_joined 1 h.line u (inner_unknown reducers h.inner inside))
      ∙ or_else_assoc n1a n1b (or_else n2 (or_else (named 5 h.line (leftmost (f ++ reducers_in reducers (bounds_of_inner h)))) rest7))
      ∙ ap (λ o. or_else n1a (or_else n1b (or_else n2 (or_else o rest7)))) (named_joined 5 h.line f (reducers_in reducers (bounds_of_inner h)))
      ∙ ap (λ o. or_else n1a (or_else n1b (or_else n2 o))) (or_else_assoc n5a n5b rest7)

  -- what is left of the check once the bounds read known names alone
  abbrev tail : Check
  tail st =
      and_then (answer (named 2 h.line (leftmost (repeated (taken (bound_by before) (sites_in before)) (head_names h))))) (λ _.
      and_then (answer n5a) (λ _.
      and_then (answer n5b) (λ _.
      and_then (only_if (keeps_kinds (items_fit h.names item) (bounds_of_first h) (bounds_of_inner h) (get st.kinds)) (illegal 7 h.line (first_name h.names))) (λ _.
      and_then (only_if (list_all (is_splittable_in scope) (bounds_of_first h)) (illegal 9 h.line (codes "for"))) (λ _. Ok st)))))

  check_split : head_checked reducers h state ≡ and_then (answer n1a) (λ _. and_then (answer n1b) (λ _. tail after))
  check_split =
      ap (λ r. and_then (answer n1a) (λ _. and_then r tail)) (after_inner reducers h.line h.inner within)
      ∙ ap (λ r. and_then (answer n1a) (λ _. r)) (answer_first (named 1 h.line (leftmost (inner_unknown reducers h.inner within.scope))) (Ok after) tail)
      ∙ ap (λ sc. and_then (answer n1a) (λ _. and_then (answer (named 1 h.line (leftmost (inner_unknown reducers h.inner sc)))) (λ _. tail after))) (scope_of_each h.names (pattern_kinds h.names item) state)

  kinds_keep : (a : After) → unknown reducers scope (reads_in (bounds_of_first h)) ≡ [] → inner_unknown reducers h.inner inside ≡ [] → reducers_in reducers (bounds_of_first h) ≡ [] →
      reducers_in reducers (bounds_of_inner h) ≡ [] → keeps_kinds (items_fit h.names item) (bounds_of_first h) (bounds_of_inner h) (get after.kinds) ≡ K
  kinds_keep a e1 e2 e3 e4 =
      let bs = (bound_by before ++ h.names) ++ inner_names h.inner in
      let known = one_by_one LoopVariable (inner_names h.inner) (ints h.inner) in
      let front : Knows a.0 bs scope = knows_front a.0 bs scope (one_by_one LoopVariable h.names (pattern_kinds h.names item)) (knows_front a.0 bs inside known a.2) in
      ap (λ (st : State). keeps_kinds (items_fit h.names item) (bounds_of_first h) (bounds_of_inner h) (get st.kinds)) a.1
      ∙ ap (λ b. items_fit h.names item && b && are_ints (get a.0) (bounds_of_inner h)) (first_ints reducers scope a.0 bs (bounds_of_first h) front e1 e3)
      ∙ ap (λ b. items_fit h.names item && are_ints (kinds_in scope) (bounds_of_first h) && b) (inner_same reducers a.0 bs h.inner inside a.2 e2 e4)
      ∙ reordered (items_fit h.names item) (are_ints (kinds_in scope) (bounds_of_first h)) (keeps_inner outline h h.inner inside)

  tests_go : (a : After) → (t : Bool) → t ≡ K → Goes rest7 (and_then (only_if t (illegal 7 h.line (first_name h.names))) (λ _. and_then (only_if (list_all (is_splittable_in scope) (bounds_of_first h)) (illegal 9 h.line (codes "for"))) (λ _. Ok after))) entries end_scope
  tests_go a t e =
      let last : Bool → Checked = λ b. and_then (only_if b (illegal 9 h.line (codes "for"))) (λ _. Ok after) in
      let P : Bool → Type 0 = λ z. Goes rest7 (and_then (only_if z (illegal 7 h.line (first_name h.names))) (λ _. last (list_all (is_splittable_in scope) (bounds_of_first h)))) entries end_scope in
      let Q : Bool → Type 0 = λ z. Goes rest7 (and_then (only_if K (illegal 7 h.line (first_name h.names))) (λ _. last z)) entries end_scope in
      subst P (sym e) (subst Q (sym (splits_is outline h before scope))
      (goes_if K seven (or_else (if S9 then None else Some nine) None) (last S9) entries end_scope (λ _.
      goes_if S9 nine None (Ok after) entries end_scope (λ _. (after, refl, kept_after a)))))

  pub head_goes : Goes (by_line outline h before scope) (head_checked reducers h state) entries end_scope
  head_goes =
      let five : Checked = and_then (answer n5b) (λ _.
      and_then (only_if (keeps_kinds (items_fit h.names item) (bounds_of_first h) (bounds_of_inner h) (get after.kinds)) (illegal 7 h.line (first_name h.names))) (λ _.
      and_then (only_if (list_all (is_splittable_in scope) (bounds_of_first h)) (illegal 9 h.line (codes "for"))) (λ _. Ok after))) in
      goes_is (by_line outline h before scope) (or_else n1a (or_else n1b (or_else n2 (or_else n5a (or_else n5b rest7))))) (head_checked reducers h state)
      (and_then (answer n1a) (λ _. and_then (answer n1b) (λ _. tail after))) entries entries end_scope end_scope line_split check_split refl refl
      (goes_line n1a n1a (or_else n1b (or_else n2 (or_else n5a (or_else n5b rest7)))) (and_then (answer n1b) (λ _. tail after)) entries end_scope refl (λ e1.
      goes_line n1b n1b (or_else n2 (or_else n5a (or_else n5b rest7))) (tail after) entries end_scope refl (λ e2.
      goes_line n2 (named 2 h.line (leftmost (repeated (taken (bound_by before) (sites_in before)) (head_names h)))) (or_else n5a (or_else n5b rest7)) (and_then (answer n5a) (λ _. five)) entries end_scope
      (ap (λ z. named 2 h.line (leftmost (repeated z (head_names h)))) (taken_is before)) (λ e3.
      goes_line n5a n5a (or_else n5b rest7) five entries end_scope refl (λ e4.
      goes_line n5b n5b rest7 _ entries end_scope refl (λ e5.
      let a : After = after_all (none_of 2 h.line (repeated taken_names (head_names h)) e3) in
      tests_go a (keeps_kinds (items_fit h.names item) (bounds_of_first h) (bounds_of_inner h) (get after.kinds))
      (kinds_keep a (none_of 1 h.line (unknown reducers scope (reads_in (bounds_of_first h))) e1) (none_of 1 h.line (inner_unknown reducers h.inner inside) e2)
      (none_of 5 h.line (reducers_in reducers (bounds_of_first h)) e4) (none_of 5 h.line (reducers_in reducers (bounds_of_inner h)) e5))))))))

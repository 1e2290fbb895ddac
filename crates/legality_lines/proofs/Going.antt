-- One check after another, and what the rules on names say of one line.
use Rattle.std.proofs.Common.{◌≡◌, ℕ, Bool, true, false, List, [], ◌∷◌, ◌++◌, Option, Some, None, Ok, Err, refl, sym, ◌∙◌, ap, subst}
use Rattle.std.specs.Prelude.{not, ◌&&◌, if◌then◌else◌, filter}
use Rattle.std.specs.FinMap.{get}
use Rattle.loop_values.specs.NamesIn.{SameAt}
use Rattle.legality_rules.specs.declared.refusal.Offence.{Offence}
use Rattle.legality_rules.specs.declared.refusal.LegalRefusal.TheVariants.{Illegal}
use Rattle.legality_rules.specs.declared.scope.Site.{Site}
use Rattle.legality_rules.specs.Scopes.{Scope, is_in, is_known, kinds_in}
use Rattle.legality_rules.specs.Lines.{Entry, Form, printed, reduced}
use Rattle.legality_rules.specs.Rules.{Outline, Spot, Rule, unknown_names, names_bound_twice, carried_variables, reducers_used, reducers_with_other_towers, types_differ, starts_not_allowed, heads_not_splittable, sites_too_many, used, is_reducer, bound_by, reduced_by, site_at, sites_in}
use Rattle.legality_rules.specs.Cuts.{or_else, first_named, first_broken}
use Rattle.legality_lines.specs.declared.state.State.{State}
use Rattle.legality_names.specs.Answers.{answer, leftmost, named, and_then}
use Rattle.legality_lines.specs.LineChecks.{Checked, only_if}
use Rattle.legality_names.specs.Names.{site_names, taken, unknown}
use Rattle.legality_lines.specs.Walks.{Check}
use Rattle.legality_names.proofs.FirstMet.{by_others, first_met, or_else_assoc, or_none}
use Rattle.legality_lines.proofs.Knowing.{KindMap, Kept, Knows, made}

-- ---- where a check goes on

-- the first offence that is met is refused, and where none is met the state is kept
abbrev pub Goes : Option Offence → Checked → List Entry → Scope → Type 0
Goes None r earlier scope = (state : State) × (r ≡ Ok state) × Kept state earlier scope
Goes (Some o) r earlier scope = r ≡ Err (Illegal o)

pub goes_then : (x y : Option Offence) (r : Checked) (before : List Entry) (inside : Scope) (earlier : List Entry) (scope : Scope) (k : Check) → Goes x r before inside →
    ((kinds : KindMap) → Knows kinds (bound_by before) inside → Goes y (k (made (bound_by before) (sites_in before) inside kinds)) earlier scope) →
    Goes (or_else x y) (and_then r k) earlier scope
goes_then None y r before inside earlier scope k a b =
    let P : Checked → Type 0 = λ z. Goes y (and_then z k) earlier scope in
    let Q : State → Type 0 = λ z. Goes y (k z) earlier scope in
    subst P (sym a.1) (subst Q (sym a.2.1) (b a.2.0 a.2.2))
goes_then (Some o) y r before inside earlier scope k a b = ap (λ z. and_then z k) a

pub goes_line : (x o y : Option Offence) (k : Checked) (earlier : List Entry) (scope : Scope) → o ≡ x → (x ≡ None → Goes y k earlier scope) →
    Goes (or_else x y) (and_then (answer o) (λ _. k)) earlier scope
goes_line x o y k earlier scope e f = let P : Option Offence → Type 0 = λ z. Goes (or_else x y) (and_then (answer z) (λ _. k)) earlier scope in subst P (sym e) (at x f)
  where
    at : (x : Option Offence) → (x ≡ None → Goes y k earlier scope) → Goes (or_else x y) (and_then (answer x) (λ _. k)) earlier scope
    at None f = f refl
    at (Some p) f = refl

-- a test, and what follows where it holds
pub goes_if : (t : Bool) (o : Offence) (y : Option Offence) (k : Checked) (earlier : List Entry) (scope : Scope) → (t ≡ true → Goes y k earlier scope) →
    Goes (or_else (if t then None else Some o) y) (and_then (only_if t (Illegal o)) (λ _. k)) earlier scope
goes_if true o y k earlier scope f = f refl
goes_if false o y k earlier scope f = refl

pub goes_is : (x y : Option Offence) (r s : Checked) (earlier before : List Entry) (scope inside : Scope) → x ≡ y → r ≡ s → before ≡ earlier → inside ≡ scope →
    Goes y s before inside → Goes x r earlier scope
goes_is x y r s earlier before scope inside e f g h w =
    let P : Option Offence → Type 0 = λ z. Goes z r earlier scope in
    let Q : Checked → Type 0 = λ z. Goes y z earlier scope in
    let R : List Entry → Type 0 = λ z. Goes y s z scope in
    let S : Scope → Type 0 = λ z. Goes y s before z in
    subst P (sym e) (subst Q (sym f) (subst R g (subst S h w)))

pub checks_assoc : (r : Checked) (f g : Check) → and_then (and_then r f) g ≡ and_then r (λ x. and_then (f x) g)
checks_assoc (Ok x) f g = refl
checks_assoc (Err e) f g = refl

pub answer_first : (o : Option Offence) (f : Checked) (g : Check) → and_then (and_then (answer o) (λ _. f)) g ≡ and_then (answer o) (λ _. and_then f g)
answer_first None f g = refl
answer_first (Some o) f g = refl

-- ---- one entry

-- the rules on names, and those on kinds, towers and counts
abbrev pub kind_rules : List (ℕ × Rule)
kind_rules =
    (6, reducers_with_other_towers)
    ∷ (7, types_differ)
    ∷ (8, starts_not_allowed)
    ∷ (9, heads_not_splittable)
    ∷ (10, sites_too_many)
    ∷ []

abbrev pub by_names : Outline → Spot → Option Offence
by_names outline spot =
    or_else (first_named 1 spot (unknown_names outline spot))
    (or_else (first_named 2 spot (names_bound_twice outline spot))
    (or_else (first_named 3 spot (carried_variables outline spot)) (first_named 5 spot (reducers_used outline spot))))

abbrev pub by_kinds : Outline → Spot → Option Offence
by_kinds outline spot = first_broken outline spot kind_rules

pub names_first : (outline : Outline) (spot : Spot) → by_others outline spot ≡ or_else (by_names outline spot) (by_kinds outline spot)
names_first outline spot =
    let a = first_named 1 spot (unknown_names outline spot) in
    let b = first_named 2 spot (names_bound_twice outline spot) in
    let c = first_named 3 spot (carried_variables outline spot) in
    let d = first_named 5 spot (reducers_used outline spot) in
    let y = by_kinds outline spot in
    ap (λ o. or_else a (or_else b o)) (sym (or_else_assoc c d y))
    ∙ ap (or_else a) (sym (or_else_assoc b (or_else c d) y))
    ∙ sym (or_else_assoc a (or_else b (or_else c d)) y)

-- what is met at one entry
pub one_met : (outline : Outline) (before : List Entry) (e : Entry) →
    let spot : Spot = record { earlier = before; here = e } in
    first_met (by_others outline) before (e ∷ []) ≡ or_else (by_names outline spot) (by_kinds outline spot)
one_met outline before e = let spot : Spot = record { earlier = before; here = e } in or_none (by_others outline spot) ∙ names_first outline spot

pub named_is : (number : ℕ) (spot : Spot) (ns : List (List ℕ)) → named number spot.here.line (leftmost ns) ≡ first_named number spot ns
named_is number spot [] = refl
named_is number spot (n ∷ ns) = refl

pub names_are : (outline : Outline) (spot : Spot) (a b c d : List (List ℕ)) → a ≡ unknown_names outline spot → b ≡ names_bound_twice outline spot → c ≡ carried_variables outline spot →
    d ≡ reducers_used outline spot →
    or_else (named 1 spot.here.line (leftmost a)) (or_else (named 2 spot.here.line (leftmost b)) (or_else (named 3 spot.here.line (leftmost c)) (named 5 spot.here.line (leftmost d)))) ≡ by_names outline spot
names_are outline spot a b c d e f g h =
    let l = spot.here.line in
    ap (λ z. or_else (named 1 l (leftmost z)) (or_else (named 2 l (leftmost b)) (or_else (named 3 l (leftmost c)) (named 5 l (leftmost d))))) e
    ∙ ap (λ z. or_else (named 1 l (leftmost (unknown_names outline spot))) (or_else (named 2 l (leftmost z)) (or_else (named 3 l (leftmost c)) (named 5 l (leftmost d))))) f
    ∙ ap (λ z. or_else (named 1 l (leftmost (unknown_names outline spot))) (or_else (named 2 l (leftmost (names_bound_twice outline spot))) (or_else (named 3 l (leftmost z)) (named 5 l (leftmost d))))) g
    ∙ ap (λ z. or_else (named 1 l (leftmost (unknown_names outline spot))) (or_else (named 2 l (leftmost (names_bound_twice outline spot))) (or_else (named 3 l (leftmost (carried_variables outline spot))) (named 5 l (leftmost z))))) h
    ∙ ap (λ z. or_else z (or_else (named 2 l (leftmost (names_bound_twice outline spot))) (or_else (named 3 l (leftmost (carried_variables outline spot))) (named 5 l (leftmost (reducers_used outline spot)))))) (named_is 1 spot (unknown_names outline spot))
    ∙ ap (λ z. or_else (first_named 1 spot (unknown_names outline spot)) (or_else z (or_else (named 3 l (leftmost (carried_variables outline spot))) (named 5 l (leftmost (reducers_used outline spot)))))) (named_is 2 spot (names_bound_twice outline spot))
    ∙ ap (λ z. or_else (first_named 1 spot (unknown_names outline spot)) (or_else (first_named 2 spot (names_bound_twice outline spot)) (or_else z (named 5 l (leftmost (reducers_used outline spot)))))) (named_is 3 spot (carried_variables outline spot))
    ∙ ap (λ z. or_else (first_named 1 spot (unknown_names outline spot)) (or_else (first_named 2 spot (names_bound_twice outline spot)) (or_else (first_named 3 spot (carried_variables outline spot)) z))) (named_is 5 spot (reducers_used outline spot))

-- ---- where the rules on names are kept

pub none_left : (x y : Option Offence) → or_else x y ≡ None → x ≡ None
none_left None y e = refl
none_left (Some o) y e = absurd (cc)

pub none_right : (x y : Option Offence) → or_else x y ≡ None → y ≡ None
none_right None y e = e
none_right (Some o) y e = absurd (cc)

pub none_named : (number : ℕ) (spot : Spot) (ns : List (List ℕ)) → first_named number spot ns ≡ None → ns ≡ []
none_named number spot [] e = refl
none_named number spot (n ∷ ns) e = absurd (cc)

first_is_kept : (r k : Bool) (n : List ℕ) (ns : List (List ℕ)) → (if not r && not k then n ∷ ns else ns) ≡ [] → (r ≡ false → k ≡ true) × (ns ≡ [])
first_is_kept true k n ns e = (λ h. absurd (cc), e)
first_is_kept false true n ns e = (λ h. refl, e)
first_is_kept false false n ns e = absurd (cc)

first_is_none : (r : Bool) (n : List ℕ) (ns : List (List ℕ)) → (if r then n ∷ ns else ns) ≡ [] → (r ≡ false) × (ns ≡ [])
first_is_none true n ns e = absurd (cc)
first_is_none false n ns e = (refl, e)

-- names that are known and no reducers have the same kinds in the state and in scope
pub all_known : (reducers : List (List ℕ)) (scope : Scope) (kinds : KindMap) (bs : List (List ℕ)) → Knows kinds bs scope → (ns : List (List ℕ)) →
    unknown reducers scope ns ≡ [] → filter (is_in reducers) ns ≡ [] → SameAt (get kinds) (kinds_in scope) ns
all_known reducers scope kinds bs knows [] e h = tt
all_known reducers scope kinds bs knows (n ∷ ns) e h =
    let a = first_is_kept (is_in reducers n) (is_known scope n) n (unknown reducers scope ns) e in
    let b = first_is_none (is_in reducers n) n (filter (is_in reducers) ns) h in
    (knows.agree n (a.0 b.0), all_known reducers scope kinds bs knows ns a.1 b.1)

left_empty : {X : Type 0} (xs ys : List X) → xs ++ ys ≡ [] → xs ≡ []
left_empty [] ys e = refl
left_empty (x ∷ xs) ys e = absurd (cc)

-- so have the names that a line reads or assigns, where it keeps the rules on names
pub line_known : (outline : Outline) (spot : Spot) (kinds : KindMap) (bs : List (List ℕ)) → Knows kinds bs spot.here.scope → by_names outline spot ≡ None →
    SameAt (get kinds) (kinds_in spot.here.scope) (used spot.here.says)
line_known outline spot kinds bs knows e =
    let a = first_named 1 spot (unknown_names outline spot) in
    let b = first_named 2 spot (names_bound_twice outline spot) in
    let c = first_named 3 spot (carried_variables outline spot) in
    let d = first_named 5 spot (reducers_used outline spot) in
    let one : unknown_names outline spot ≡ [] = none_named 1 spot (unknown_names outline spot) (none_left a (or_else b (or_else c d)) e) in
    let five : reducers_used outline spot ≡ [] =
    none_named 5 spot (reducers_used outline spot) (none_right c d (none_right b (or_else c d) (none_right a (or_else b (or_else c d)) e))) in
    all_known (reduced_by outline.entries) spot.here.scope kinds bs knows (used spot.here.says)
    (left_empty (unknown (reduced_by outline.entries) spot.here.scope (used spot.here.says)) (filter (λ n. not (is_reducer outline n)) (printed spot.here.says)) one) five

-- and what it binds is new
pub line_new : (outline : Outline) (spot : Spot) → by_names outline spot ≡ None → names_bound_twice outline spot ≡ []
line_new outline spot e =
    let a = first_named 1 spot (unknown_names outline spot) in
    let b = first_named 2 spot (names_bound_twice outline spot) in
    let c = first_named 3 spot (carried_variables outline spot) in
    let d = first_named 5 spot (reducers_used outline spot) in
    none_named 2 spot (names_bound_twice outline spot) (none_left b (or_else c d) (none_right a (or_else b (or_else c d)) e))

-- ---- names of sites

map_joined : (xs ys : List Site) → site_names (xs ++ ys) ≡ site_names xs ++ site_names ys
map_joined [] ys = refl
map_joined (x ∷ xs) ys = ap (λ ns. x.name ∷ ns) (map_joined xs ys)

one_site : (scope : Scope) (form : Form) → site_names (site_at scope form) ≡ reduced form
one_site scope (Form.var_line n v) = refl
one_site scope (Form.first_head ns axes product) = refl
one_site scope (Form.inner_head n range) = refl
one_site scope (Form.init_line n v) = refl
one_site scope (Form.let_line ns x) = refl
one_site scope (Form.set_line n x) = refl
one_site scope (Form.condition x) = refl
one_site scope (Form.keep_line n x) = refl
one_site scope (Form.reduce_line n tower start) = refl
one_site scope (Form.print_line n) = refl

pub sites_named : (entries : List Entry) → site_names (sites_in entries) ≡ reduced_by entries
sites_named [] = refl
sites_named (e ∷ es) =
    map_joined (site_at e.scope e.says) (sites_in es) ∙ ap (λ z. z ++ site_names (sites_in es)) (one_site e.scope e.says) ∙ ap (λ z. reduced e.says ++ z) (sites_named es)

pub taken_is : (before : List Entry) → taken (bound_by before) (sites_in before) ≡ bound_by before ++ reduced_by before
taken_is before = ap (λ z. bound_by before ++ z) (sites_named before)

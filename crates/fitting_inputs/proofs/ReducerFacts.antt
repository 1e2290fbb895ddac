-- In a legal program all `@reduce` lines of a name have one tower, which their start values fit, and there are at most 64 of them.
use Rattle.std.proofs.Common.{◌≡◌, ℕ, ◌+◌, ◌≤◌, Bool, true, false, List, [], ◌∷◌, ◌++◌, map, length, Option, Some, None, refl, ap, sym, suc, ◌∙◌, subst, append-nil, append_assoc, length-append, arith}
use Rattle.std.specs.Prelude.{◌==◌, not, filter, if◌then◌else◌}
use Rattle.std.specs.List.{AllByRecursion}
use Rattle.std.specs.Str.{bytes_eq}
use Rattle.std.proofs.lemmas.Bool.Decides.{nat_tests}
use Rattle.loop_data.specs.declared.tower.Kind.{Kind}
use Rattle.loop_grammar.specs.declared.tree.ProgramTree.{ProgramTree}
use Rattle.loop_values.specs.Kinds.{Kinds}
use Rattle.loop_values.proofs.EntryLemmas.{same_self, same_text}
use Rattle.tower_inputs.specs.Towers.{kind_of_tower, same_tower}
use Rattle.tower_inputs.proofs.SameTowers.{same_tower-sound}
use Rattle.legality_rules.specs.declared.scope.Site.{Site}
use Rattle.legality_rules.specs.Laws.{KeepsRules}
use Rattle.legality_rules.specs.Lines.{Entry, Form, entries_of, reduce_line, reduced}
use Rattle.legality_rules.specs.Offences.{IsLegal, spots_after, spots_of}
use Rattle.tower_inputs.specs.Inputs.{most_sites}
use Rattle.legality_rules.specs.Rules.{Outline, Spot, differs_from_first, outline_of, reducers_with_other_towers, rules, site_at, site_differs, sites_in, sites_of, sites_too_many}
use Rattle.legality_rules.specs.Scopes.{Scope, kinds_in}
use Rattle.legality_rules.specs.Towers.{input_kinds, inputs_differ}
use Rattle.legality_rules.proofs.RuleLemmas.{legal_keeps}
use Rattle.carries_nothing.proofs.SameNames.{first_false}
use Rattle.legality_check.specs.Laws.{InputsFit, LegalInputsFit}
use Rattle.fitting_inputs.specs.Laws.{LegalStartsFit, ReduceLinesAreFew, ReducersAgree}
use Rattle.fitting_inputs.specs.ReduceLines.{ReduceLine, StartFits, kind_among, reduce_lines, reducer_kind}
use Rattle.fitting_inputs.proofs.ReduceEntries.{line_at, lines_joined, lines_of, program_lines, reduce_of}

-- ---- lists

pub each : {X : Type 0} (P Q : X → Type 0) → ((x : X) → P x → Q x) → (xs : List X) → AllByRecursion P xs → AllByRecursion Q xs
each P Q h [] a = tt
each P Q h (x ∷ xs) a = (h x a.0, each P Q h xs a.1)

all_both : {X : Type 0} (P : X → Type 0) (xs ys : List X) → AllByRecursion P xs → AllByRecursion P ys → AllByRecursion P (xs ++ ys)
all_both P [] ys h k = k
all_both P (x ∷ xs) ys h k = (h.0, all_both P xs ys h.1 k)

-- what holds of the `@reduce` line of each entry holds of each `@reduce` line
gather : (P : ReduceLine → Type 0) (before es : List Entry) → AllByRecursion (λ (spot : Spot). AllByRecursion P (line_at spot.here.says)) (spots_after before es) → AllByRecursion P (lines_of es)
gather P before [] h = tt
gather P before (e ∷ es) h = all_both P (line_at e.says) (lines_of es) h.0 (gather P (before ++ e ∷ []) es h.1)

of_program : (P : ReduceLine → Type 0) (program : ProgramTree) → AllByRecursion (λ (spot : Spot). AllByRecursion P (line_at spot.here.says)) (spots_of program) →
    AllByRecursion P (reduce_lines program)
of_program P program h = subst (AllByRecursion P) (program_lines program) (gather P [] (entries_of program) h)

-- ---- the first line of a name

turned : (a b : List ℕ) → bytes_eq a b ≡ bytes_eq b a
turned a b = at (bytes_eq a b) refl (bytes_eq b a) refl
  where
    at : (s : Bool) → bytes_eq a b ≡ s → (t : Bool) → bytes_eq b a ≡ t → bytes_eq a b ≡ bytes_eq b a
    at true e true f = e ∙ sym f
    at true e false f = absurd (let one : bytes_eq b a ≡ true = subst (λ z. bytes_eq b z ≡ true) (sym (same_text a b e)) (same_self b) in cc)
    at false e true f = absurd (let one : bytes_eq a b ≡ true = subst (λ z. bytes_eq a z ≡ true) (sym (same_text b a f)) (same_self a) in cc)
    at false e false f = e ∙ sym f

abbrev or_kind : Option Kind → Option Kind → Option Kind
or_kind (Some kind) later = Some kind
or_kind None later = later

among_joined : (xs ys : List ReduceLine) (n : List ℕ) → kind_among (xs ++ ys) n ≡ or_kind (kind_among xs n) (kind_among ys n)
among_joined [] ys n = refl
among_joined (x ∷ xs) ys n = first (bytes_eq x.name n) (among_joined xs ys n)
  where
    first : (b : Bool) → kind_among (xs ++ ys) n ≡ or_kind (kind_among xs n) (kind_among ys n) →
        (if b then Some x.kind else kind_among (xs ++ ys) n) ≡ or_kind (if b then Some x.kind else kind_among xs n) (kind_among ys n)
    first true h = refl
    first false h = h

abbrev first_tower : List Site → Option Kind
first_tower [] = None
first_tower (site ∷ _) = Some site.tower

-- the kind of the first line of a name among entries is that of the first site of this name
first_kind : (n : List ℕ) (es : List Entry) → kind_among (lines_of es) n ≡ first_tower (sites_of n es)
first_kind n [] = refl
first_kind n (e ∷ es) = at e.says e.scope (first_kind n es)
  where
    found : (site : Site) (b : Bool) → kind_among (lines_of es) n ≡ first_tower (sites_of n es) →
        (if b then Some site.tower else kind_among (lines_of es) n) ≡ first_tower (if b then site ∷ sites_of n es else sites_of n es)
    found site true h = refl
    found site false h = h

    at : (form : Form) (scope : Scope) → kind_among (lines_of es) n ≡ first_tower (sites_of n es) →
        kind_among (line_at form ++ lines_of es) n ≡ first_tower (filter (λ (site : Site). bytes_eq n site.name) (site_at scope form ++ sites_in es))
    at (reduce_line m tower start) scope h =
        let site : Site = record { name = m; tower = kind_of_tower tower; inputs = input_kinds tower (kinds_in scope) } in
        ap (λ b. if b then Some (kind_of_tower tower) else kind_among (lines_of es) n) (turned m n) ∙ found site (bytes_eq n m) h
    at _ scope h = h

-- ---- rule 6: one tower

-- each `@reduce` line of an entry has the kind that its name has among these lines
abbrev pub Agrees : List ReduceLine → Spot → Type 0
Agrees lines spot = AllByRecursion (λ (line : ReduceLine). kind_among lines line.name ≡ Some line.kind) (line_at spot.here.says)

-- a line that differs from the first site of its name neither by its tower nor by its inputs has the tower of that site
same_as : (site first : Site) → site_differs site first ≡ false → first.tower ≡ site.tower
same_as site first e = at (same_tower site.tower first.tower) refl
  where
    at : (b : Bool) → same_tower site.tower first.tower ≡ b → first.tower ≡ site.tower
    at true is = sym (same_tower-sound site.tower first.tower is)
    at false is =
        absurd (let no : not (same_tower site.tower first.tower) ≡ false = first_false (not (same_tower site.tower first.tower)) (inputs_differ site.inputs first.inputs) e in
        let yes : not (same_tower site.tower first.tower) ≡ true = ap not is in
        cc)

module _ (before : List Entry) (more : List ReduceLine) where
  by_first : (site : Site) (own : Option Kind) (sites : List Site) → own ≡ Some site.tower →
      map (λ (z : Site). z.name) (if differs_from_first site sites then site ∷ [] else []) ≡ [] → or_kind (first_tower sites) own ≡ Some site.tower
  by_first site own [] is e = is
  by_first site own (first ∷ sites) is e = ap Some (same_as site first (no (site_differs site first) e))
    where
      no : (b : Bool) → map (λ (z : Site). z.name) (if b then site ∷ [] else []) ≡ [] → b ≡ false
      no true e = absurd (cc)
      no false e = refl

  at_form : (form : Form) (scope : Scope) →
      map (λ (z : Site). z.name) (filter (λ (site : Site). differs_from_first site (sites_of site.name before)) (site_at scope form)) ≡ [] →
      AllByRecursion (λ (line : ReduceLine). kind_among (lines_of before ++ (line_at form ++ more)) line.name ≡ Some line.kind) (line_at form)
  at_form (reduce_line n tower start) scope e =
      let site : Site = record { name = n; tower = kind_of_tower tower; inputs = input_kinds tower (kinds_in scope) } in
      let own : Option Kind = kind_among (reduce_of n tower start ∷ more) n in
      let own_is : own ≡ Some (kind_of_tower tower) = ap (λ b. if b then Some (kind_of_tower tower) else kind_among more n) (same_self n) in
      (among_joined (lines_of before) (reduce_of n tower start ∷ more) n ∙ ap (λ z. or_kind z own) (first_kind n before) ∙ by_first site own (sites_of n before) own_is e, tt)
  at_form _ scope e = tt

agree_from : (outline : Outline) (before es : List Entry) → AllByRecursion (λ (spot : Spot). reducers_with_other_towers outline spot ≡ []) (spots_after before es) →
    AllByRecursion (Agrees (lines_of (before ++ es))) (spots_after before es)
agree_from outline before [] k = tt
agree_from outline before (e ∷ es) k =
    let spot : Spot = record { earlier = before; here = e } in (
      subst (λ lines. Agrees lines spot) (sym (lines_joined before (e ∷ es))) (at_form before (lines_of es) e.says e.scope k.0),
      subst (λ xs. AllByRecursion (Agrees (lines_of xs)) (spots_after (before ++ e ∷ []) es)) (append_assoc before (e ∷ []) es) (agree_from outline (before ++ e ∷ []) es k.1),
    )

-- in a legal program the `@reduce` line of each entry has the kind of its reducer
pub spots_agree : (program : ProgramTree) → IsLegal program → AllByRecursion (Agrees (reduce_lines program)) (spots_of program)
spots_agree program legal =
    let outline : Outline = outline_of program in
    subst (λ lines. AllByRecursion (Agrees lines) (spots_of program)) (program_lines program)
    (agree_from outline [] (entries_of program)
    (each (KeepsRules outline rules) (λ (spot : Spot). reducers_with_other_towers outline spot ≡ []) (λ spot k. k.1.1.1.1.1.0) (spots_of program) (legal_keeps program legal)))

pub reducers_agree : ReducersAgree
reducers_agree program legal = of_program (λ (line : ReduceLine). reducer_kind program line.name ≡ Some line.kind) program (spots_agree program legal)

-- ---- rule 10: few lines

same_count : (es : List Entry) → length (sites_in es) ≡ length (lines_of es)
same_count [] = refl
same_count (e ∷ es) = at e.says e.scope (same_count es)
  where
    at : (form : Form) (scope : Scope) → length (sites_in es) ≡ length (lines_of es) → length (site_at scope form ++ sites_in es) ≡ length (line_at form ++ lines_of es)
    at (reduce_line n tower start) scope h = ap suc h
    at _ scope h = h

below : (k : ℕ) → k ≤ most_sites → (k == most_sites) ≡ false → k + 1 ≤ most_sites
below k le ne = grind (arith, nat_tests)

one_more : (k : ℕ) (form : Form) → k ≤ most_sites → filter (λ n. k == most_sites) (reduced form) ≡ [] → k + length (line_at form) ≤ most_sites
one_more k (reduce_line n tower start) le e = at (k == most_sites) refl e
  where
    at : (b : Bool) → (k == most_sites) ≡ b → (if b then n ∷ [] else []) ≡ [] → k + 1 ≤ most_sites
    at true is e = absurd (cc)
    at false is e = below k le is
one_more k _ le e = omega (arith, le)

few_from : (outline : Outline) (before es : List Entry) → AllByRecursion (λ (spot : Spot). sites_too_many outline spot ≡ []) (spots_after before es) →
    length (lines_of before) ≤ most_sites → length (lines_of (before ++ es)) ≤ most_sites
few_from outline before [] k le = subst (λ xs. length (lines_of xs) ≤ most_sites) (sym (append-nil before)) le
few_from outline before (e ∷ es) k le =
    let here : length (lines_of before) + length (line_at e.says) ≤ most_sites =
    one_more (length (lines_of before)) e.says le (subst (λ z. filter (λ n. z == most_sites) (reduced e.says) ≡ []) (same_count before) k.0) in
    let count : length (lines_of (before ++ e ∷ [])) ≡ length (lines_of before) + length (line_at e.says) =
    ap length (lines_joined before (e ∷ []) ∙ ap (λ z. lines_of before ++ z) (append-nil (line_at e.says))) ∙ length-append (lines_of before) (line_at e.says) in
    subst (λ xs. length (lines_of xs) ≤ most_sites) (append_assoc before (e ∷ []) es) (few_from outline (before ++ e ∷ []) es k.1 (subst (λ z. z ≤ most_sites) (sym count) here))

pub reduce_lines_are_few : ReduceLinesAreFew
reduce_lines_are_few program legal =
    let outline : Outline = outline_of program in
    subst (λ lines. length lines ≤ most_sites) (program_lines program)
    (few_from outline [] (entries_of program)
    (each (KeepsRules outline rules) (λ (spot : Spot). sites_too_many outline spot ≡ []) (λ spot k. k.1.1.1.1.1.1.1.1.1.0) (spots_of program) (legal_keeps program legal)) (omega arith))

-- ---- start values

-- a start value that fits the tower of its line fits the kind of this tower
starts_at : (form : Form) (names : Kinds) → InputsFit names form → AllByRecursion (λ (line : ReduceLine). StartFits line.start line.kind) (line_at form)
starts_at (reduce_line n tower None) names h = (tt, tt)
starts_at (reduce_line n tower (Some start)) names h = (h.0, tt)
starts_at _ names h = tt

-- from the law on the inputs of `@reduce` lines
pub legal_starts_fit : LegalInputsFit → LegalStartsFit
legal_starts_fit inputs text program spelled legal =
    of_program (λ (line : ReduceLine). StartFits line.start line.kind) program
    (each (λ (spot : Spot). InputsFit (kinds_in spot.here.scope) spot.here.says) (λ (spot : Spot). AllByRecursion (λ (line : ReduceLine). StartFits line.start line.kind) (line_at spot.here.says))
    (λ spot h. starts_at spot.here.says (kinds_in spot.here.scope) h) (spots_of program) (inputs text program spelled legal))

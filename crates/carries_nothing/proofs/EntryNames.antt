-- What the entries of a statement tell of it: the reads on its paths, the names that it binds or assigns, and what is in scope.
use Rattle.std.specs.Option.{option_and_then}
use Rattle.std.proofs.Common.{◌≡◌, ℕ, Bool, true, false, List, [], ◌∷◌, ◌++◌, map, Some, None, refl, ap, sym, ◌∙◌, subst, codes}
use Rattle.std.specs.Prelude.{not, ◌&&◌, ◌||◌, ◌==◌, flat_map}
use Rattle.std.specs.List.{list_any, AllByRecursion}
use Rattle.std.specs.Str.{bytes_eq}
use Rattle.std.proofs.lemmas.List.Folds.{list_any-append}
use Rattle.loop_data.specs.declared.statement.Statement.{Statement, fold-roll-Statement, ind-Statement, map-Statement, roll-Statement}
use Rattle.loop_data.specs.declared.statement.Branch.{Branch, fold-roll-Branch, roll-Branch}
use Rattle.loop_data.specs.declared.statement.Statement.TheOpen.{Statement-F, Statement-F as s, Branch-F}
use Rattle.loop_data.specs.declared.statement.Statement.TheFolds as folds
use Rattle.loop_values.specs.Kinds.{kind_of}
use Rattle.loop_values.specs.NamesIn.{names_read}
use Rattle.tower_inputs.specs.Towers.{names_read_in_tower}
use Rattle.legality_rules.specs.declared.scope.Sort.{Sort}
use Rattle.legality_rules.specs.declared.scope.Sort.TheVariants.{Local}
use Rattle.legality_rules.specs.Lines.{Branched, Entry, Form, Listed, Listing, assigned, bound, branch_listing, branches_in_turn, condition, in_turn, keep_line, let_line, one_entry, read, reduce_line, set_line, statement_listing, statement_step}
use Rattle.legality_rules.specs.Lines as lines
use Rattle.legality_rules.specs.Paths as paths
use Rattle.legality_rules.specs.Paths.{Branching, Path, after, assigned_on, assigns, branch_paths, followed_by, is_reached, line_reads, misses, paths_in_turn, paths_of_one, paths_step, reads_first, statement_paths}
use Rattle.legality_rules.specs.Scopes.{Scope, found, is_in, kinds_in, sort_in, unwrapped}
use Rattle.loop_meaning.specs.Assigned.{all_assigned, assigned_in, assigned_in_branch, assigned_in_branch_step, assigned_step}
use Rattle.legality_rules.proofs.OpenPaths.{IsSome, first_joined, line_reaches, reached_after, reached_either, reached_in_turn, some_after, some_either, some_in_turn}
use Rattle.carries_nothing.proofs.SameNames.{first_false, second_false}
use Rattle.carries_nothing.proofs.ScopeLemmas.{one_none, pattern_none, sort_none, sort_stays}

-- ---- truth values

or_cases : {P : Type 0} (a b : Bool) → (a ≡ true → P) → (b ≡ true → P) → (a || b) ≡ true → P
or_cases true b f g e = f refl
or_cases false b f g e = g e

or_left : (a b : Bool) → a ≡ true → (a || b) ≡ true
or_left true b e = refl
or_left false b e = absurd (cc)

or_right : (a b : Bool) → b ≡ true → (a || b) ≡ true
or_right true b e = refl
or_right false b e = e

and_right : (a b : Bool) → (a && b) ≡ true → b ≡ true
and_right true b e = e
and_right false b e = absurd (cc)

-- ---- lists

all_joined : {X : Type 0} (P : X → Type 0) (xs ys : List X) → AllByRecursion P xs → AllByRecursion P ys → AllByRecursion P (xs ++ ys)
all_joined P [] ys h k = k
all_joined P (x ∷ xs) ys h k = (h.0, all_joined P xs ys h.1 k)

any_left : {X : Type 0} (test : X → Bool) (xs ys : List X) → list_any test xs ≡ true → list_any test (xs ++ ys) ≡ true
any_left test xs ys e = list_any-append test xs ys ∙ or_left (list_any test xs) (list_any test ys) e

any_right : {X : Type 0} (test : X → Bool) (xs ys : List X) → list_any test ys ≡ true → list_any test (xs ++ ys) ≡ true
any_right test xs ys e = list_any-append test xs ys ∙ or_right (list_any test xs) (list_any test ys) e

any_of : {X P : Type 0} (test : X → Bool) (xs ys : List X) → (list_any test xs ≡ true → P) → (list_any test ys ≡ true → P) → list_any test (xs ++ ys) ≡ true → P
any_of test xs ys f g e = or_cases (list_any test xs) (list_any test ys) f g (sym (list_any-append test xs ys) ∙ e)

-- ---- what entries tell

-- the entry stands on this line and reads the name
abbrev pub reads_at : ℕ → List ℕ → Entry → Bool
reads_at line n entry = entry.line == line && is_in (read entry.says) n

-- the entry binds or assigns the name
abbrev pub names_at : List ℕ → Entry → Bool
names_at n entry = is_in (bound entry.says) n || is_in (assigned entry.says) n

-- the name is in scope there as this
abbrev pub KnownAt : List ℕ → Sort → Entry → Type 0
KnownAt n sort entry = sort_in entry.scope n ≡ Some sort

-- the name isn't in scope there
abbrev pub UnknownAt : List ℕ → Entry → Type 0
UnknownAt n entry = sort_in entry.scope n ≡ None

abbrev pub entries_in : Listing → Scope → List Entry
entries_in listing scope = let here : Listed = listing scope in here.entries

abbrev pub scope_in : Listing → Scope → Scope
scope_in listing scope = let here : Listed = listing scope in here.scope

abbrev pub Names : Type 0
Names = List (List ℕ)

-- The entries of a statement with these paths, which binds or assigns these names: what is in scope before it stays in scope;
-- each read that a path reaches stands in an entry, and so does each of these names.
pub record Told (listing : Listing) (ps : List Path) (names : Names) : Type 0 where
  pub some : IsSome ps
  pub stays : (scope : Scope) (n : List ℕ) (sort : Sort) → sort_in scope n ≡ Some sort → sort_in (scope_in listing scope) n ≡ Some sort
  pub known : (scope : Scope) (n : List ℕ) (sort : Sort) → sort_in scope n ≡ Some sort → AllByRecursion (KnownAt n sort) (entries_in listing scope)
  pub reads : (scope : Scope) (line : ℕ) (n : List ℕ) → is_reached ps line n ≡ true → list_any (reads_at line n) (entries_in listing scope) ≡ true
  pub binds : (scope : Scope) (n : List ℕ) → is_in names n ≡ true → list_any (names_at n) (entries_in listing scope) ≡ true
  pub hides : (scope : Scope) (n : List ℕ) → sort_in scope n ≡ None → is_in names n ≡ false → (sort_in (scope_in listing scope) n ≡ None) × AllByRecursion (UnknownAt n) (entries_in listing scope)

-- the same of several statements
pub record AllTold (listings : List Listing) (ps : List Path) (names : Names) : Type 0 where
  pub some : IsSome ps
  pub known : (scope : Scope) (n : List ℕ) (sort : Sort) → sort_in scope n ≡ Some sort → AllByRecursion (KnownAt n sort) (in_turn listings scope)
  pub reads : (scope : Scope) (line : ℕ) (n : List ℕ) → is_reached ps line n ≡ true → list_any (reads_at line n) (in_turn listings scope) ≡ true
  pub binds : (scope : Scope) (n : List ℕ) → is_in names n ≡ true → list_any (names_at n) (in_turn listings scope) ≡ true
  pub hides : (scope : Scope) (n : List ℕ) → sort_in scope n ≡ None → is_in names n ≡ false → AllByRecursion (UnknownAt n) (in_turn listings scope)

-- the same of a condition with its block, or of several, told the paths of what is done otherwise
pub record BranchTold (listing : Branched) (branching : Branching) (names : Names) : Type 0 where
  pub some : (others : List Path) → IsSome others → IsSome (branching others)
  pub known : (word : List ℕ) (scope : Scope) (n : List ℕ) (sort : Sort) → sort_in scope n ≡ Some sort → AllByRecursion (KnownAt n sort) (listing word scope)
  pub reads : (word : List ℕ) (scope : Scope) (line : ℕ) (n : List ℕ) (others : List Path) → IsSome others → is_reached (branching others) line n ≡ true →
      (list_any (reads_at line n) (listing word scope) || is_reached others line n) ≡ true
  pub binds : (word : List ℕ) (scope : Scope) (n : List ℕ) → is_in names n ≡ true → list_any (names_at n) (listing word scope) ≡ true
  pub hides : (word : List ℕ) (scope : Scope) (n : List ℕ) → sort_in scope n ≡ None → is_in names n ≡ false → AllByRecursion (UnknownAt n) (listing word scope)

-- ---- one line

or_false : (a : Bool) → (a || false) ≡ true → a ≡ true
or_false true e = refl
or_false false e = e

one_told : (line : ℕ) (called : List ℕ) (says : Form) (binds : Scope → Scope) (ps : List Path) (names : Names) → IsSome ps →
    ((l : ℕ) (n : List ℕ) → is_reached ps l n ≡ true → (line == l && is_in (read says) n) ≡ true) →
    ((n : List ℕ) → is_in names n ≡ true → (is_in (bound says) n || is_in (assigned says) n) ≡ true) →
    ((scope : Scope) (n : List ℕ) → is_in names n ≡ false → sort_in (binds scope) n ≡ None) →
    Told (λ scope. one_entry line called says (binds scope) scope) ps names
one_told line called says binds ps names some reads named hidden = record {
  some = some;
  stays = λ scope n sort is. sort_stays scope (binds scope) n sort is;
  known = λ scope n sort is. (is, tt);
  reads = λ scope l n e. or_left (line == l && is_in (read says) n) false (reads l n e);
  binds = λ scope n e. or_left (is_in (bound says) n || is_in (assigned says) n) false (named n e);
  hides = λ scope n none apart. (sort_none scope (binds scope) n none (hidden scope n apart), (none, tt));
}

reads_alone : (line : ℕ) (names : Names) (l : ℕ) (n : List ℕ) → is_reached (paths.going (line_reads line names) ∷ []) l n ≡ true → (line == l && is_in names n) ≡ true
reads_alone line names l n e = sym (line_reaches l n line names) ∙ or_false (reads_first l n (line_reads line names)) e

reads_twice : (line : ℕ) (names : Names) (l : ℕ) (n : List ℕ) → is_reached (paths.going (line_reads line names) ∷ paths.ending (line_reads line names) ∷ []) l n ≡ true →
    (line == l && is_in names n) ≡ true
reads_twice line names l n e =
    let one : Bool = reads_first l n (line_reads line names) in
    sym (line_reaches l n line names) ∙ or_cases one (one || false) (λ h. h) (or_false one) e

and_false : (a : Bool) → (a && false) ≡ true → ⊥
and_false true e = absurd (cc)
and_false false e = absurd (cc)

reads_before_set : (line : ℕ) (names : Names) (m : List ℕ) (l : ℕ) (n : List ℕ) → is_reached (paths.going (line_reads line names ++ assigns m ∷ []) ∷ []) l n ≡ true →
    (line == l && is_in names n) ≡ true
reads_before_set line names m l n e =
    let one : Bool = reads_first l n (line_reads line names) in
    let two : Bool = not (bytes_eq n m) && false in
    let both = sym (first_joined l n (line_reads line names) (assigns m ∷ [])) ∙ or_false (reads_first l n (line_reads line names ++ assigns m ∷ [])) e in
    sym (line_reaches l n line names)
    ∙ or_cases one (not (assigned_on n (line_reads line names)) && two) (λ h. h) (λ h. absurd (and_false (not (bytes_eq n m)) (and_right (not (assigned_on n (line_reads line names))) two h))) both

no_entry : (ps : List Path) → IsSome ps → ((l : ℕ) (n : List ℕ) → is_reached ps l n ≡ true → ⊥) → Told (λ scope. record { entries = []; scope = scope }) ps []
no_entry ps some none = record {
  some = some;
  stays = λ scope n sort is. is;
  known = λ scope n sort is. tt;
  reads = λ scope l n e. absurd (none l n e);
  binds = λ scope n e. e;
  hides = λ scope n unknown apart. (unknown, tt);
}

ends_unread : (l : ℕ) (n : List ℕ) → is_reached (paths.ending [] ∷ []) l n ≡ true → ⊥
ends_unread l n e = absurd (cc)

-- ---- one statement after another

none_told : AllTold [] (paths_in_turn []) []
none_told = record {
  some = tt;
  known = λ scope n sort is. tt;
  reads = λ scope l n e. e;
  binds = λ scope n e. e;
  hides = λ scope n none apart. tt;
}

and_cases : {P : Type 0} (a m b : Bool) → (a ≡ true → P) → (b ≡ true → P) → (a || (m && b)) ≡ true → P
and_cases a m b f g e = or_cases a (m && b) f (λ h. g (and_right m b h)) e

more_told : (listing : Listing) (listings : List Listing) (ps qs : List Path) (own names : Names) → Told listing ps own → AllTold listings qs names →
    AllTold (listing ∷ listings) (flat_map (followed_by qs) ps) (own ++ names)
more_told listing listings ps qs own names here rest = record {
  some = some_in_turn ps qs here.some rest.some;
  known = λ scope n sort is. all_joined (KnownAt n sort) (entries_in listing scope) (in_turn listings (scope_in listing scope)) (here.known scope n sort is) (rest.known (scope_in listing scope) n sort (here.stays scope n sort is));
  reads = λ scope l n e.
      and_cases (is_reached ps l n) (misses n ps) (is_reached qs l n)
      (λ h. any_left (reads_at l n) (entries_in listing scope) (in_turn listings (scope_in listing scope)) (here.reads scope l n h))
      (λ h. any_right (reads_at l n) (entries_in listing scope) (in_turn listings (scope_in listing scope)) (rest.reads (scope_in listing scope) l n h)) (sym (reached_in_turn ps qs l n rest.some) ∙ e);
  binds = λ scope n e.
      any_of (bytes_eq n) own names (λ h. any_left (names_at n) (entries_in listing scope) (in_turn listings (scope_in listing scope)) (here.binds scope n h))
      (λ h. any_right (names_at n) (entries_in listing scope) (in_turn listings (scope_in listing scope)) (rest.binds (scope_in listing scope) n h)) e;
  hides = λ scope n none apart.
      let both = sym (list_any-append (bytes_eq n) own names) ∙ apart in
      let first = here.hides scope n none (first_false (is_in own n) (is_in names n) both) in
      all_joined (UnknownAt n) (entries_in listing scope) (in_turn listings (scope_in listing scope)) first.1 (rest.hides (scope_in listing scope) n first.0 (second_false (is_in own n) (is_in names n) both));
}

-- ---- conditions

one_branch : (line : ℕ) (test : Names) (says : Form) (listings : List Listing) (ps : List Path) (names : Names) → read says ≡ test → AllTold listings ps names →
    BranchTold (λ word scope. record { line = line; called = word; scope = scope; says = says } ∷ in_turn listings scope) (λ others. map (after (line_reads line test)) (ps ++ others)) names
one_branch line test says listings ps names is block = record {
  some = λ others some. some_after (line_reads line test) (ps ++ others) (some_either ps others block.some);
  known = λ word scope n sort e. (e, block.known scope n sort e);
  reads = λ word scope l n others some e. told scope l n others
      (sym (reached_after (line_reads line test) (ps ++ others) l n (some_either ps others block.some)) ∙ e);
  binds = λ word scope n e. or_right _ (list_any (names_at n) (in_turn listings scope)) (block.binds scope n e);
  hides = λ word scope n none apart. (none, block.hides scope n none apart);
}
  where
    told : (scope : Scope) (l : ℕ) (n : List ℕ) (others : List Path) →
        (reads_first l n (line_reads line test) || (not (assigned_on n (line_reads line test)) && is_reached (ps ++ others) l n)) ≡ true →
        (((line == l && is_in (read says) n) || list_any (reads_at l n) (in_turn listings scope)) || is_reached others l n) ≡ true
    told scope l n others e =
        let here : Bool = line == l && is_in (read says) n in
        let inside : Bool = list_any (reads_at l n) (in_turn listings scope) in
        and_cases (reads_first l n (line_reads line test)) (not (assigned_on n (line_reads line test))) (is_reached (ps ++ others) l n)
        (λ h. or_left (here || inside) (is_reached others l n) (or_left here inside (ap (λ names. line == l && is_in names n) is ∙ sym (line_reaches l n line test) ∙ h)))
        (λ h.
        or_cases (is_reached ps l n) (is_reached others l n) (λ g. or_left (here || inside) (is_reached others l n) (or_right here inside (block.reads scope l n g)))
        (λ g. or_right (here || inside) (is_reached others l n) g) (sym (reached_either ps others l n) ∙ h)) e

-- no condition
no_branch : BranchTold (λ word scope. branches_in_turn word [] scope) (paths_of_one []) []
no_branch = record {
  some = λ others some. some;
  known = λ word scope n sort is. tt;
  reads = λ word scope l n others some e. e;
  binds = λ word scope n e. e;
  hides = λ word scope n none apart. tt;
}

more_branches : (listing : Branched) (listings : List Branched) (branching : Branching) (branchings : List Branching) (own names : Names) → BranchTold listing branching own →
    BranchTold (λ word scope. branches_in_turn word listings scope) (paths_of_one branchings) names →
    BranchTold (λ word scope. branches_in_turn word (listing ∷ listings) scope) (paths_of_one (branching ∷ branchings)) (own ++ names)
more_branches listing listings branching branchings own names here rest = record {
  some = λ others some. here.some (paths_of_one branchings others) (rest.some others some);
  known = λ word scope n sort is. all_joined (KnownAt n sort) (listing word scope) (branches_in_turn (codes "elseif") listings scope) (here.known word scope n sort is) (rest.known (codes "elseif") scope n sort is);
  reads = λ word scope l n others some e.
      or_cases (list_any (reads_at l n) (listing word scope)) (is_reached (paths_of_one branchings others) l n)
      (λ h. or_left _ (is_reached others l n) (any_left (reads_at l n) (listing word scope) (branches_in_turn (codes "elseif") listings scope) h))
      (λ h.
      or_cases (list_any (reads_at l n) (branches_in_turn (codes "elseif") listings scope)) (is_reached others l n)
      (λ g. or_left _ (is_reached others l n) (any_right (reads_at l n) (listing word scope) (branches_in_turn (codes "elseif") listings scope) g))
      (λ g. or_right (list_any (reads_at l n) (branches_in_turn word (listing ∷ listings) scope)) (is_reached others l n) g) (rest.reads (codes "elseif") scope l n others some h))
      (here.reads word scope l n (paths_of_one branchings others) (rest.some others some) e);
  binds = λ word scope n e.
      any_of (bytes_eq n) own names (λ h. any_left (names_at n) (listing word scope) (branches_in_turn (codes "elseif") listings scope) (here.binds word scope n h))
      (λ h. any_right (names_at n) (listing word scope) (branches_in_turn (codes "elseif") listings scope) (rest.binds (codes "elseif") scope n h)) e;
  hides = λ word scope n none apart.
      let both = sym (list_any-append (bytes_eq n) own names) ∙ apart in
      all_joined (UnknownAt n) (listing word scope) (branches_in_turn (codes "elseif") listings scope) (here.hides word scope n none (first_false (is_in own n) (is_in names n) both))
      (rest.hides (codes "elseif") scope n none (second_false (is_in own n) (is_in names n) both));
}

-- conditions with their blocks, and what stands under `else`
whole_told : (listings : List Branched) (branchings : List Branching) (own : Names) (others : List Listing) (ps : List Path) (names : Names) →
    BranchTold (λ word scope. branches_in_turn word listings scope) (paths_of_one branchings) own → AllTold others ps names →
    Told (λ scope. record { entries = branches_in_turn (codes "if") listings scope ++ in_turn others scope; scope = scope }) (paths_of_one branchings ps) (own ++ names)
whole_told listings branchings own others ps names here rest = record {
  some = here.some ps rest.some;
  stays = λ scope n sort is. is;
  known = λ scope n sort is. all_joined (KnownAt n sort) (branches_in_turn (codes "if") listings scope) (in_turn others scope) (here.known (codes "if") scope n sort is) (rest.known scope n sort is);
  reads = λ scope l n e.
      or_cases (list_any (reads_at l n) (branches_in_turn (codes "if") listings scope)) (is_reached ps l n)
      (λ h. any_left (reads_at l n) (branches_in_turn (codes "if") listings scope) (in_turn others scope) h)
      (λ h. any_right (reads_at l n) (branches_in_turn (codes "if") listings scope) (in_turn others scope) (rest.reads scope l n h)) (here.reads (codes "if") scope l n ps rest.some e);
  binds = λ scope n e.
      any_of (bytes_eq n) own names (λ h. any_left (names_at n) (branches_in_turn (codes "if") listings scope) (in_turn others scope) (here.binds (codes "if") scope n h))
      (λ h. any_right (names_at n) (branches_in_turn (codes "if") listings scope) (in_turn others scope) (rest.binds scope n h)) e;
  hides = λ scope n none apart.
      let both = sym (list_any-append (bytes_eq n) own names) ∙ apart in (
        none,
        all_joined (UnknownAt n) (branches_in_turn (codes "if") listings scope) (in_turn others scope) (here.hides (codes "if") scope n none (first_false (is_in own n) (is_in names n) both))
            (rest.hides scope n none (second_false (is_in own n) (is_in names n) both)),
      );
}

-- ---- trees of statements

abbrev IsTold : Statement → Type 0
IsTold x = Told (statement_listing x) (statement_paths x) (assigned_in x)

abbrev IsToldBranch : Branch → Type 0
IsToldBranch b = BranchTold (branch_listing b) (branch_paths b) (assigned_in_branch b)

abbrev Such : Type 0
Such = (x : Statement) × IsTold x

abbrev SuchBranch : Type 0
SuchBranch = (b : Branch) × IsToldBranch b

abbrev bare : Such → Statement
bare e = e.0

abbrev bare_branch : SuchBranch → Branch
bare_branch e = e.0

abbrev BlockTold : List Statement → Type 0
BlockTold xs = AllTold (map statement_listing xs) (paths_in_turn (map statement_paths xs)) (all_assigned (map assigned_in xs))

block_told : (xs : List Such) → BlockTold (map bare xs)
block_told [] = none_told
block_told (x ∷ xs) = more_told (statement_listing x.0) (map statement_listing (map bare xs)) (statement_paths x.0) (paths_in_turn (map statement_paths (map bare xs))) (assigned_in x.0) _ x.1 (block_told xs)

branches_told : (bs : List SuchBranch) →
    BranchTold (λ word scope. branches_in_turn word (map branch_listing (map bare_branch bs)) scope) (paths_of_one (map branch_paths (map bare_branch bs))) (all_assigned (map assigned_in_branch (map bare_branch bs)))
branches_told [] = no_branch
branches_told (b ∷ bs) =
    more_branches (branch_listing b.0) (map branch_listing (map bare_branch bs)) (branch_paths b.0) (map branch_paths (map bare_branch bs)) (assigned_in_branch b.0) _ b.1 (branches_told bs)

abbrev ListingOf : Statement-F Statement Branch → Listing
ListingOf w = statement_step (map-Statement Statement Branch Listing Branched statement_listing branch_listing w)

abbrev PathsOf : Statement-F Statement Branch → List Path
PathsOf w = paths_step (map-Statement Statement Branch (List Path) Branching statement_paths branch_paths w)

abbrev NamesOf : Statement-F Statement Branch → Names
NamesOf w = assigned_step (map-Statement Statement Branch Names Names assigned_in assigned_in_branch w)

abbrev BranchListingOf : Branch-F Statement Branch → Branched
BranchListingOf w = lines.branch_step (folds.map-Branch Statement Branch Listing Branched statement_listing branch_listing w)

abbrev BranchPathsOf : Branch-F Statement Branch → Branching
BranchPathsOf w = paths.branch_step (folds.map-Branch Statement Branch (List Path) Branching statement_paths branch_paths w)

abbrev BranchNamesOf : Branch-F Statement Branch → Names
BranchNamesOf w = assigned_in_branch_step (folds.map-Branch Statement Branch Names Names assigned_in assigned_in_branch w)

abbrev bared : Statement-F Such SuchBranch → Statement-F Statement Branch
bared y = map-Statement Such SuchBranch Statement Branch bare bare_branch y

abbrev bared_branch : Branch-F Such SuchBranch → Branch-F Statement Branch
bared_branch y = folds.map-Branch Such SuchBranch Statement Branch bare bare_branch y

layer_told : (y : Statement-F Such SuchBranch) → Told (ListingOf (bared y)) (PathsOf (bared y)) (NamesOf (bared y))
layer_told (s.Let line ns x) =
    one_told line _ (let_line ns x) _ (paths.going (line_reads line (names_read x)) ∷ []) ns tt (reads_alone line (names_read x)) (λ n e. or_left (is_in ns n) false e)
    (λ scope n apart. pattern_none Local ns (found (kind_of x (kinds_in scope))) n apart)
layer_told (s.Set line m x) =
    one_told line _ (set_line m x) (λ scope. []) (paths.going (line_reads line (names_read x) ++ assigns m ∷ []) ∷ []) (m ∷ []) tt (reads_before_set line (names_read x) m) (λ n e. e) (λ scope n apart. refl)
layer_told (s.If line branches else_line other end_line) =
    whole_told (map branch_listing (map bare_branch branches)) (map branch_paths (map bare_branch branches)) _ (map statement_listing (map bare other)) (paths_in_turn (map statement_paths (map bare other))) _
    (branches_told branches) (block_told other)
layer_told (s.Keep line m x) =
    one_told line _ (keep_line m x) _ (paths.going (line_reads line (names_read x)) ∷ paths.ending (line_reads line (names_read x)) ∷ []) (m ∷ []) tt (reads_twice line (names_read x))
    (λ n e. or_left (is_in (m ∷ []) n) false e) (λ scope n apart. one_none Local m (option_and_then unwrapped (found (kind_of x (kinds_in scope)))) n apart)
layer_told (s.Reduce line m tower start) =
    one_told line _ (reduce_line m tower start) (λ scope. []) (paths.going (line_reads line (names_read_in_tower tower)) ∷ []) [] tt (reads_alone line (names_read_in_tower tower)) (λ n e. absurd (cc)) (λ scope n apart. refl)
layer_told (s.Continue line) = no_entry (paths.ending [] ∷ []) tt ends_unread
layer_told (s.Break line) = no_entry (paths.ending [] ∷ []) tt ends_unread

branch_layer_told : (y : Branch-F Such SuchBranch) → BranchTold (BranchListingOf (bared_branch y)) (BranchPathsOf (bared_branch y)) (BranchNamesOf (bared_branch y))
branch_layer_told y =
    one_branch y.line (names_read y.test) (condition y.test) (map statement_listing (map bare y.block)) (paths_in_turn (map statement_paths (map bare y.block))) _ refl (block_told y.block)

rolled : (x : Statement-F Statement Branch) → Told (ListingOf x) (PathsOf x) (NamesOf x) → IsTold (roll-Statement x)
rolled x h =
    subst (λ z. Told z (statement_paths (roll-Statement x)) (assigned_in (roll-Statement x))) (sym (fold-roll-Statement Listing Branched statement_step lines.branch_step x))
    (subst (λ z. Told (ListingOf x) z (assigned_in (roll-Statement x))) (sym (fold-roll-Statement (List Path) Branching paths_step paths.branch_step x))
    (subst (Told (ListingOf x) (PathsOf x)) (sym (fold-roll-Statement Names Names assigned_step assigned_in_branch_step x)) h))

rolled_branch : (x : Branch-F Statement Branch) → BranchTold (BranchListingOf x) (BranchPathsOf x) (BranchNamesOf x) → IsToldBranch (roll-Branch x)
rolled_branch x h =
    subst (λ z. BranchTold z (branch_paths (roll-Branch x)) (assigned_in_branch (roll-Branch x))) (sym (fold-roll-Branch Listing Branched statement_step lines.branch_step x))
    (subst (λ z. BranchTold (BranchListingOf x) z (assigned_in_branch (roll-Branch x))) (sym (fold-roll-Branch (List Path) Branching paths_step paths.branch_step x))
    (subst (BranchTold (BranchListingOf x) (BranchPathsOf x)) (sym (fold-roll-Branch Names Names assigned_step assigned_in_branch_step x)) h))

pub statement_told : (x : Statement) → IsTold x
statement_told = ind-Statement IsTold IsToldBranch
    (λ x y is. rolled x (subst (λ w. Told (ListingOf w) (PathsOf w) (NamesOf w)) is (layer_told y)))
    (λ x y is. rolled_branch x (subst (λ w. BranchTold (BranchListingOf w) (BranchPathsOf w) (BranchNamesOf w)) is (branch_layer_told y)))

pub all_statements_told : (xs : List Statement) → BlockTold xs
all_statements_told [] = none_told
all_statements_told (x ∷ xs) = more_told (statement_listing x) (map statement_listing xs) (statement_paths x) (paths_in_turn (map statement_paths xs)) (assigned_in x) _ (statement_told x) (all_statements_told xs)

-- The `@reduce` lines among the entries of a program are its `@reduce` lines, in the same order.
use Rattle.std.proofs.Common.{◌≡◌, ℕ, List, [], ◌∷◌, ◌++◌, map, Option, refl, ap, sym, ◌∙◌, subst, codes, append-nil}
use Rattle.std.specs.Prelude.{flat_map}
use Rattle.loop_data.specs.declared.value.Value.{Value}
use Rattle.loop_data.specs.declared.head.Binding.{Binding}
use Rattle.loop_data.specs.declared.head.HeadLine.{HeadLine}
use Rattle.loop_data.specs.declared.head.Inner.{Inner}
use Rattle.loop_data.specs.declared.head.PrintLine.{PrintLine}
use Rattle.loop_data.specs.declared.statement.Statement.{Statement, fold-roll-Statement, ind-Statement, map-Statement, roll-Statement}
use Rattle.loop_data.specs.declared.statement.Branch.{Branch, fold-roll-Branch, roll-Branch}
use Rattle.loop_data.specs.declared.statement.Statement.TheOpen.{Statement-F, Statement-F as s, Branch-F}
use Rattle.loop_data.specs.declared.statement.Statement.TheFolds as folds
use Rattle.loop_data.specs.declared.tower.TowerExpr.{TowerExpr}
use Rattle.loop_grammar.specs.declared.tree.ProgramTree.{ProgramTree}
use Rattle.tower_inputs.specs.Towers.{kind_of_tower}
use Rattle.legality_rules.specs.Cuts.{scope_after}
use Rattle.legality_rules.specs.Lines.{Branched, Entry, Form, Listing, branch_listing, branch_step, branches_in_turn, entries_of, head_listing, in_turn, init_listing, inner_listing, print_listing, reduce_line, statement_listing, statement_step, var_listing}
use Rattle.legality_rules.specs.Scopes.{Scope}
use Rattle.legality_rules.proofs.CutLemmas.{entries_of_two}
use Rattle.carries_nothing.proofs.EntryNames.{entries_in, scope_in}
use Rattle.carries_nothing.proofs.SpotLemmas.{flat_joined}
use Rattle.fitting_inputs.specs.ReduceLines.{ReduceLine, all_lines, branch_lines, lines_in, lines_in_branch, lines_step, reduce_lines}

abbrev pub reduce_of : List ℕ → TowerExpr → Option Value → ReduceLine
reduce_of n tower start = record { name = n; kind = kind_of_tower tower; start = start }

-- the `@reduce` line that an entry is, where it is one
abbrev pub line_at : Form → List ReduceLine
line_at (reduce_line n tower start) = reduce_of n tower start ∷ []
line_at _ = []

-- the `@reduce` lines among entries, in order
abbrev pub lines_of : List Entry → List ReduceLine
lines_of entries = flat_map (λ (entry : Entry). line_at entry.says) entries

pub lines_joined : (xs ys : List Entry) → lines_of (xs ++ ys) ≡ lines_of xs ++ lines_of ys
lines_joined xs ys = flat_joined (λ (entry : Entry). line_at entry.says) xs ys

-- ---- trees of statements

-- whatever is in scope before it, the entries of this part have these `@reduce` lines
abbrev Has : Listing → List ReduceLine → Type 0
Has listing lines = (scope : Scope) → lines_of (entries_in listing scope) ≡ lines

-- the same of several parts one after another
abbrev AllHave : List Listing → List ReduceLine → Type 0
AllHave listings lines = (scope : Scope) → lines_of (in_turn listings scope) ≡ lines

-- the same of a condition with its block, or of several
abbrev BranchHas : Branched → List ReduceLine → Type 0
BranchHas listing lines = (word : List ℕ) (scope : Scope) → lines_of (listing word scope) ≡ lines

both_have : (xs ys : List Entry) (own more : List ReduceLine) → lines_of xs ≡ own → lines_of ys ≡ more → lines_of (xs ++ ys) ≡ own ++ more
both_have xs ys own more h k = lines_joined xs ys ∙ ap (λ z. z ++ lines_of ys) h ∙ ap (λ z. own ++ z) k

more_have : (listing : Listing) (listings : List Listing) (own more : List ReduceLine) → Has listing own → AllHave listings more → AllHave (listing ∷ listings) (own ++ more)
more_have listing listings own more here rest scope =
    both_have (entries_in listing scope) (in_turn listings (scope_in listing scope)) own more (here scope) (rest (scope_in listing scope))

more_branches : (listing : Branched) (listings : List Branched) (own more : List ReduceLine) → BranchHas listing own →
    BranchHas (λ word scope. branches_in_turn word listings scope) more → BranchHas (λ word scope. branches_in_turn word (listing ∷ listings) scope) (own ++ more)
more_branches listing listings own more here rest word scope =
    both_have (listing word scope) (branches_in_turn (codes "elseif") listings scope) own more (here word scope) (rest (codes "elseif") scope)

abbrev StatementHas : Statement → Type 0
StatementHas x = Has (statement_listing x) (lines_in x)

abbrev OneBranchHas : Branch → Type 0
OneBranchHas b = BranchHas (branch_listing b) (lines_in_branch b)

abbrev Such : Type 0
Such = (x : Statement) × StatementHas x

abbrev SuchBranch : Type 0
SuchBranch = (b : Branch) × OneBranchHas b

abbrev bare : Such → Statement
bare e = e.0

abbrev bare_branch : SuchBranch → Branch
bare_branch e = e.0

abbrev BlockHas : List Statement → Type 0
BlockHas xs = AllHave (map statement_listing xs) (all_lines (map lines_in xs))

block_has : (xs : List Such) → BlockHas (map bare xs)
block_has [] scope = refl
block_has (x ∷ xs) scope = more_have (statement_listing x.0) (map statement_listing (map bare xs)) (lines_in x.0) (all_lines (map lines_in (map bare xs))) x.1 (block_has xs) scope

branches_have : (bs : List SuchBranch) →
    BranchHas (λ word scope. branches_in_turn word (map branch_listing (map bare_branch bs)) scope) (all_lines (map lines_in_branch (map bare_branch bs)))
branches_have [] word scope = refl
branches_have (b ∷ bs) word scope =
    more_branches (branch_listing b.0) (map branch_listing (map bare_branch bs)) (lines_in_branch b.0) (all_lines (map lines_in_branch (map bare_branch bs)))
    b.1 (branches_have bs) word scope

abbrev ListingOf : Statement-F Statement Branch → Listing
ListingOf w = statement_step (map-Statement Statement Branch Listing Branched statement_listing branch_listing w)

abbrev LinesOf : Statement-F Statement Branch → List ReduceLine
LinesOf w = lines_step (map-Statement Statement Branch (List ReduceLine) (List ReduceLine) lines_in lines_in_branch w)

abbrev BranchListingOf : Branch-F Statement Branch → Branched
BranchListingOf w = branch_step (folds.map-Branch Statement Branch Listing Branched statement_listing branch_listing w)

abbrev BranchLinesOf : Branch-F Statement Branch → List ReduceLine
BranchLinesOf w = branch_lines (folds.map-Branch Statement Branch (List ReduceLine) (List ReduceLine) lines_in lines_in_branch w)

abbrev bared : Statement-F Such SuchBranch → Statement-F Statement Branch
bared y = map-Statement Such SuchBranch Statement Branch bare bare_branch y

abbrev bared_branch : Branch-F Such SuchBranch → Branch-F Statement Branch
bared_branch y = folds.map-Branch Such SuchBranch Statement Branch bare bare_branch y

layer_has : (y : Statement-F Such SuchBranch) → Has (ListingOf (bared y)) (LinesOf (bared y))
layer_has (s.Let line ns x) scope = refl
layer_has (s.Set line m x) scope = refl
layer_has (s.If line branches else_line other end_line) scope =
    both_have (branches_in_turn (codes "if") (map branch_listing (map bare_branch branches)) scope) (in_turn (map statement_listing (map bare other)) scope)
    (all_lines (map lines_in_branch (map bare_branch branches))) (all_lines (map lines_in (map bare other)))
    (branches_have branches (codes "if") scope) (block_has other scope)
layer_has (s.Keep line m x) scope = refl
layer_has (s.Reduce line m tower start) scope = refl
layer_has (s.Continue line) scope = refl
layer_has (s.Break line) scope = refl

branch_layer_has : (y : Branch-F Such SuchBranch) → BranchHas (BranchListingOf (bared_branch y)) (BranchLinesOf (bared_branch y))
branch_layer_has y word scope = block_has y.block scope

rolled : (x : Statement-F Statement Branch) → Has (ListingOf x) (LinesOf x) → StatementHas (roll-Statement x)
rolled x h =
    subst (λ z. Has z (lines_in (roll-Statement x))) (sym (fold-roll-Statement Listing Branched statement_step branch_step x))
    (subst (Has (ListingOf x)) (sym (fold-roll-Statement (List ReduceLine) (List ReduceLine) lines_step branch_lines x)) h)

rolled_branch : (x : Branch-F Statement Branch) → BranchHas (BranchListingOf x) (BranchLinesOf x) → OneBranchHas (roll-Branch x)
rolled_branch x h =
    subst (λ z. BranchHas z (lines_in_branch (roll-Branch x))) (sym (fold-roll-Branch Listing Branched statement_step branch_step x))
    (subst (BranchHas (BranchListingOf x)) (sym (fold-roll-Branch (List ReduceLine) (List ReduceLine) lines_step branch_lines x)) h)

statement_has : (x : Statement) → StatementHas x
statement_has = ind-Statement StatementHas OneBranchHas
    (λ x y is. rolled x (subst (λ w. Has (ListingOf w) (LinesOf w)) is (layer_has y)))
    (λ x y is. rolled_branch x (subst (λ w. BranchHas (BranchListingOf w) (BranchLinesOf w)) is (branch_layer_has y)))

body_has : (xs : List Statement) → BlockHas xs
body_has [] scope = refl
body_has (x ∷ xs) scope = more_have (statement_listing x) (map statement_listing xs) (lines_in x) (all_lines (map lines_in xs)) (statement_has x) (body_has xs) scope

-- ---- the whole program

none_in_vars : (vs : List Binding) → AllHave (map var_listing vs) []
none_in_vars [] scope = refl
none_in_vars (v ∷ vs) scope = none_in_vars vs (scope_in (var_listing v) scope)

none_in_inits : (vs : List Binding) → AllHave (map init_listing vs) []
none_in_inits [] scope = refl
none_in_inits (v ∷ vs) scope = none_in_inits vs (scope_in (init_listing v) scope)

none_in_inner : (h : HeadLine) (inner : List Inner) → AllHave (map (inner_listing h) inner) []
none_in_inner h [] scope = refl
none_in_inner h (i ∷ inner) scope = none_in_inner h inner (scope_in (inner_listing h i) scope)

none_in_prints : (ps : List PrintLine) → AllHave (map print_listing ps) []
none_in_prints [] scope = refl
none_in_prints (p ∷ ps) scope = none_in_prints ps (scope_in (print_listing p) scope)

two_have : (xs ys : List Listing) (own more : List ReduceLine) → AllHave xs own → AllHave ys more → AllHave (xs ++ ys) (own ++ more)
two_have xs ys own more h k scope =
    ap lines_of (entries_of_two xs ys scope) ∙ both_have (in_turn xs scope) (in_turn ys (scope_after xs scope)) own more (h scope) (k (scope_after xs scope))

-- the `@reduce` lines among the entries of a program are its `@reduce` lines
pub program_lines : (program : ProgramTree) → lines_of (entries_of program) ≡ reduce_lines program
program_lines p =
    let vars : List Listing = map var_listing p.vars in
    let heads : List Listing = head_listing p.head ∷ map (inner_listing p.head) p.head.inner in
    let inits : List Listing = map init_listing p.scratch in
    let statements : List Listing = map statement_listing p.body in
    let heads_have : AllHave heads [] = λ scope. none_in_inner p.head p.head.inner (scope_in (head_listing p.head) scope) in
    let to_heads : AllHave (vars ++ heads) [] = two_have vars heads [] [] (none_in_vars p.vars) heads_have in
    let to_inits : AllHave ((vars ++ heads) ++ inits) [] = two_have (vars ++ heads) inits [] [] to_heads (none_in_inits p.scratch) in
    let to_body : AllHave (((vars ++ heads) ++ inits) ++ statements) (reduce_lines p) =
    two_have ((vars ++ heads) ++ inits) statements [] (reduce_lines p) to_inits (body_has p.body) in
    two_have (((vars ++ heads) ++ inits) ++ statements) (map print_listing p.prints) (reduce_lines p) [] to_body (none_in_prints p.prints) []
    ∙ append-nil (reduce_lines p)

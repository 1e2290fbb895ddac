-- The lines of a program rise: those of one part of it all stand above those of the next.
-- Source: this project's language.
use Rattle.std.specs.Prelude.{◌≡◌, ℕ, ◌<◌, ◌≤◌, ◌+◌, List, [], ◌∷◌, ◌++◌, map}
use Rattle.std.specs.List.{AllByRecursion}
use Rattle.loop_grammar.specs.declared.line.NumberedLine.{NumberedLine}
use Rattle.legality_rules.specs.Scopes.{Scope}
use Rattle.loop_data.specs.declared.statement.Branch.{Branch}
use Rattle.loop_grammar.specs.declared.tree.ProgramTree.{ProgramTree}
use Rattle.loop_grammar.specs.Texts.{SpellsProgram}
use Rattle.legality_rules.specs.Lines.{Entry, Listing, Listed, in_turn, var_listing, head_listing, inner_listing, init_listing}
use Rattle.legality_rules.specs.Lines.{statement_listing, branch_listing, print_listing, condition}
use Rattle.legality_rules.specs.Rules.{Outline, rules}
use Rattle.legality_rules.specs.Offences.{first_among, offences_after}
use Rattle.legality_rules.specs.Cuts.{or_else, first_broken, scope_after}

-- the numbers of the lines rise, from n on
abbrev pub Rises : ℕ → List NumberedLine → Type 0
Rises n [] = Unit {0}
Rises n (x ∷ xs) = (n ≤ x.line) × Rises (x.line + 1) xs

-- each of the entries stands on a line from n on, before line m
abbrev pub Within : ℕ → ℕ → List Entry → Type 0
Within n m entries = AllByRecursion (λ entry. (n ≤ entry.line) × (entry.line < m)) entries

-- the entries of something, whatever is in scope before it, stand on lines from n on, before those of `rest`
pub record StandsAbove (n : ℕ) (rest : List NumberedLine) (entries : Scope → List Entry) : Type 0 where
  pub end : ℕ
  pub ordered : n ≤ end
  pub rises : Rises end rest
  pub within : (scope : Scope) → Within n end (entries scope)

-- parts of a program, one after another, stand on lines from n on, before line m, and all lines of each above those of the next
abbrev pub PartsRise : ℕ → ℕ → List Listing → Scope → Type 0
PartsRise n m [] scope = n ≤ m
PartsRise n m (listing ∷ more) scope =
    let here : Listed = listing scope in (k : ℕ) × (n ≤ k) × Within n k here.entries × PartsRise k m more here.scope

-- some parts as one
abbrev pub together : List Listing → Listing
together some scope = record { entries = in_turn some scope; scope = scope_after some scope }

-- the parts of a program, the entries of its `for` line as one
abbrev pub lines_in_turn : ProgramTree → List Listing
lines_in_turn p =
    map var_listing p.vars
    ++ together (head_listing p.head ∷ map (inner_listing p.head) p.head.inner) ∷ map init_listing p.scratch
    ++ map statement_listing p.body
    ++ map print_listing p.prints

-- the lines of a program rise
abbrev pub LinesRise : Type 0
LinesRise = (text : List ℕ) (program : ProgramTree) → SpellsProgram text program →
    (end : ℕ) × PartsRise 1 end (lines_in_turn program) []

-- where one stretch of entries stands above another, an offence in the first comes before all of the second
abbrev pub FirstOfRising : Type 0
FirstOfRising = (outline : Outline) (before entries more : List Entry) (n m k : ℕ) → Within n m entries → Within m k more →
    first_among (offences_after outline before (entries ++ more))
    ≡ or_else (first_among (offences_after outline before entries))
    (first_among (offences_after outline (before ++ entries) more))

-- the first offence of parts that rise is that of the first part, or else of the others, under the names in scope after it
abbrev pub FirstOfParts : Type 0
FirstOfParts =
    (outline : Outline) (before : List Entry) (n m : ℕ) (listing : Listing) (more : List Listing) (scope : Scope) →
    PartsRise n m (listing ∷ more) scope →
    let here : Listed = listing scope in
    first_among (offences_after outline before (in_turn (listing ∷ more) scope))
    ≡ or_else (first_among (offences_after outline before here.entries))
    (first_among (offences_after outline (before ++ here.entries) (in_turn more here.scope)))

-- the entry of a condition
abbrev pub condition_entry : Branch → List ℕ → Scope → Entry
condition_entry b word scope = record { line = b.line; called = word; scope = scope; says = condition b.test }

abbrev pub block_entries : Branch → Scope → List Entry
block_entries b scope = in_turn (map statement_listing b.block) scope

-- the first offence of a branch and of what follows it: that of its condition, or else of its block, or else of the others
abbrev pub FirstOfBranch : Type 0
FirstOfBranch =
    (outline : Outline) (before : List Entry) (k m : ℕ) (b : Branch) (word : List ℕ) (scope : Scope) (others : List Entry) →
    b.line < k → Within (b.line + 1) k (block_entries b scope) → Within k m others →
    let test : Entry = condition_entry b word scope in
    first_among (offences_after outline before (branch_listing b word scope ++ others))
    ≡ or_else (first_broken outline (record { earlier = before; here = test }) rules)
    (or_else (first_among (offences_after outline (before ++ test ∷ []) (block_entries b scope)))
    (first_among (offences_after outline (before ++ test ∷ block_entries b scope) others)))

-- What holds of lines, items and runs of a legal loop. Each is the contract of a function of laws.
-- Source: this project.
use Rattle.std.specs.Prelude.{◌≡◌, ◌≤◌, ◌-◌, ◌*◌, ◌^◌, ℕ, true, List, drop, map, length, take, Option, Some}
use Rattle.std.specs.List.{list_all, list_any, AllByRecursion}
use Rattle.std.specs.Str.{bytes_eq}
use Rattle.number_ranges.specs.Ranges.{most_items}
use Rattle.loop_data.specs.declared.value.Value.{Value}
use Rattle.loop_data.specs.declared.value.ValueKind.{ValueKind}
use Rattle.loop_data.specs.declared.expr.Expr.{Expr}
use Rattle.loop_data.specs.declared.head.HeadLine.{HeadLine}
use Rattle.loop_data.specs.declared.statement.Statement.{Statement}
use Rattle.loop_grammar.specs.declared.tree.ProgramTree.{ProgramTree}
use Rattle.loop_grammar.specs.Texts.{SpellsProgram}
use Rattle.loop_values.specs.Bindings.{Bindings}
use Rattle.loop_values.specs.Fits.{fits}
use Rattle.loop_values.specs.InnerItems.{inner_limit}
use Rattle.column_input.specs.Table.{Contents}
use Rattle.legality_rules.specs.Cuts.{scope_after}
use Rattle.legality_rules.specs.Lines.{entries_of, in_turn, statement_listing}
use Rattle.legality_rules.specs.Offences.{IsLegal}
use Rattle.tower_inputs.specs.Inputs.{most_sites}
use Rattle.legality_rules.specs.Scopes.{Scope, fits_pattern, item_kind}
use Rattle.loop_meaning.specs.declared.steps.BodyRun.{BodyRun}
use Rattle.loop_meaning.specs.declared.steps.Pair.{Pair}
use Rattle.loop_meaning.specs.Items.{Sources, head_items, items_of}
use Rattle.loop_meaning.specs.declared.reducers.Site.{Site}
use Rattle.loop_meaning.specs.Reducers.{reducers_of, sites_of}
use Rattle.loop_meaning.specs.Runs.{loop_run}
use Rattle.loop_meaning.specs.Statements.{block_run}
use Rattle.loop_meaning.specs.Steps.{body_step}
use Rattle.loop_meaning.specs.Stores.{start_store}
use Rattle.fitting_inputs.specs.Evaluated.{AreKinded, InRun, IsStrict}
use Rattle.fitting_inputs.specs.Fitting.{EntryFits, RunFits, Test, Within}
use Rattle.fitting_inputs.specs.ReduceLines.{ReduceLine, StartFits, fits_reducer, reduce_lines, reducer_kind}

-- ---- blocks

-- from a body run that fits, a block whose lines fit leaves one that fits, with the names that the block binds in scope
abbrev pub BlocksFit : Type 0
BlocksFit = (test : Test) (block : List Statement) (outer scope : Scope) (run : BodyRun) →
    Within outer scope → AllByRecursion (EntryFits test) (in_turn (map statement_listing block) scope) →
    RunFits test outer scope run →
    RunFits test outer (scope_after (map statement_listing block) scope) (block_run block run)

-- ---- items

-- each item of a head fits the kind of its items, whatever the outer variables and the table are
abbrev pub ItemsFit : Type 0
ItemsFit = (head : HeadLine) (sources : Sources) (kind : ValueKind) →
    item_kind head.product head.axes ≡ Some kind → list_all (fits kind) (head_items head sources) ≡ true

-- a legal head has a kind of items, which its pattern takes
abbrev pub LegalHeadsHaveKinds : Type 0
LegalHeadsHaveKinds = (text : List ℕ) (program : ProgramTree) → SpellsProgram text program → IsLegal program →
    (kind : ValueKind) × (item_kind program.head.product program.head.axes ≡ Some kind)
    × (fits_pattern program.head.names kind ≡ true)

-- ---- lines

-- each entry of a legal program fits: its inputs fit the tower of their reducer
abbrev pub LegalEntriesFit : Type 0
LegalEntriesFit = (text : List ℕ) (program : ProgramTree) → SpellsProgram text program → IsLegal program →
    AllByRecursion (EntryFits (fits_reducer program)) (entries_of program)

-- ---- steps and runs

-- Of each item that fits the kind of a legal head's items, and at each place, every input that its step from the start emits
-- fits the tower of its reducer, however the step ends.
abbrev pub LegalStepsFit : Type 0
LegalStepsFit = (text : List ℕ) (program : ProgramTree) (kind : ValueKind) (item : Value) (place : ℕ) →
    SpellsProgram text program → IsLegal program → item_kind program.head.product program.head.axes ≡ Some kind →
    fits kind item ≡ true → 1 ≤ place → place ≤ most_items →
    list_all (fits_reducer program) (body_step program (start_store program) item place).emitted ≡ true

-- of all that the run of a legal loop emits over its items, of which there are at most 4,294,967,296, from the start and
-- place 1, each input fits the tower of its reducer
abbrev pub LegalRunsFit : Type 0
LegalRunsFit = (text : List ℕ) (program : ProgramTree) (table : Contents) → SpellsProgram text program → IsLegal program →
    length (items_of program table) ≤ most_items →
    list_all (fits_reducer program) (loop_run program (start_store program) (items_of program table) 1).emitted ≡ true

-- so does each input that the run over a stretch of these items emits, from the start: also right of an item that stops the loop
abbrev pub LegalStretchesFit : Type 0
LegalStretchesFit = (text : List ℕ) (program : ProgramTree) (table : Contents) → SpellsProgram text program → IsLegal program →
    length (items_of program table) ≤ most_items → (first count : ℕ) → 1 ≤ first →
    list_all (fits_reducer program)
    (loop_run program (start_store program) (take count (drop (first - 1) (items_of program table))) first).emitted ≡ true

-- ---- values without defaults

-- each expression on the lines of a legal program has a kind under those of the names in scope
abbrev pub LegalExpressionsHaveKinds : Type 0
LegalExpressionsHaveKinds = (program : ProgramTree) → IsLegal program → AllByRecursion AreKinded (entries_of program)

-- No expression that the run of a legal loop over its items, of which there are at most 4,294,967,296, or over a stretch of
-- them, from the start, may evaluate asks for a default.
abbrev pub LegalRunsAreStrict : Type 0
LegalRunsAreStrict = (text : List ℕ) (program : ProgramTree) (table : Contents) (first count : ℕ) (x : Expr) (names : Bindings) →
    SpellsProgram text program → IsLegal program → length (items_of program table) ≤ most_items → 1 ≤ first →
    InRun program (start_store program) (take count (drop (first - 1) (items_of program table))) first x names →
    IsStrict x names

-- ---- how many

-- the most pairs of one item of a legal loop: one for each body run and `@reduce` line
abbrev pub most_pairs : ℕ
most_pairs = inner_limit * most_sites

-- a legal program has at most 64 sites, the `@reduce` lines as a run has them
abbrev pub LegalSitesAreFew : Type 0
LegalSitesAreFew = (program : ProgramTree) → IsLegal program → length (sites_of program) ≤ most_sites

-- a step of a legal program, from whichever store, emits at most so many pairs
abbrev pub LegalStepsEmitFew : Type 0
LegalStepsEmitFew = (program : ProgramTree) (store : Bindings) (item : Value) (place : ℕ) → IsLegal program →
    length (body_step program store item place).emitted ≤ most_pairs

-- a run emits at most so many for each item
abbrev pub LegalRunsEmitFew : Type 0
LegalRunsEmitFew = (program : ProgramTree) (store : Bindings) (items : List Value) (place : ℕ) → IsLegal program →
    length (loop_run program store items place).emitted ≤ length items * most_pairs

-- and so at most 2^58 over the items of a loop, or over a stretch of them
abbrev pub LegalPartsEmitFew : Type 0
LegalPartsEmitFew = (program : ProgramTree) (store : Bindings) (items : List Value) (place : ℕ) → IsLegal program →
    length items ≤ most_items → length (loop_run program store items place).emitted ≤ 2 ^ 58

-- ---- reducers

-- in a legal program all `@reduce` lines of a name have the tower of the first
abbrev pub ReducersAgree : Type 0
ReducersAgree = (program : ProgramTree) → IsLegal program →
    AllByRecursion (λ (line : ReduceLine). reducer_kind program line.name ≡ Some line.kind) (reduce_lines program)

-- in a legal program each start value fits the tower
abbrev pub LegalStartsFit : Type 0
LegalStartsFit = (text : List ℕ) (program : ProgramTree) → SpellsProgram text program → IsLegal program →
    AllByRecursion (λ (line : ReduceLine). StartFits line.start line.kind) (reduce_lines program)

-- a legal program has at most 64 `@reduce` lines
abbrev pub ReduceLinesAreFew : Type 0
ReduceLinesAreFew = (program : ProgramTree) → IsLegal program → length (reduce_lines program) ≤ most_sites

-- a pair that fits has a reducer's name
abbrev pub FittingPairsAreNamed : Type 0
FittingPairsAreNamed = (program : ProgramTree) (pair : Pair) → fits_reducer program pair ≡ true →
    list_any (λ name. bytes_eq name pair.name) (reducers_of program) ≡ true

-- the site of an `@reduce` line with this name and this start value
abbrev pub site : List ℕ → Option Value → Site
site name start = record { name = name; start = start }

-- the lines are those that the inputs of a name are told by
abbrev pub LinesAreSites : Type 0
LinesAreSites = (program : ProgramTree) →
    sites_of program ≡ map (λ (line : ReduceLine). site line.name line.start) (reduce_lines program)

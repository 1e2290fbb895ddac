-- The reducers of a program, in the order of their first `@reduce` lines, and the inputs of each.
-- Source: this project.
use Rattle.std.specs.Prelude.{ℕ, Bool, if◌then◌else◌, not, List, [], ◌∷◌, ◌++◌, map, filter, Option, Some, None}
use Rattle.std.specs.Str.{bytes_eq}
use Rattle.loop_data.specs.declared.value.Value.{Value}
use Rattle.loop_data.specs.declared.tower.TowerExpr.{TowerExpr}
use Rattle.loop_data.specs.declared.statement.Statement.{Statement}
use Rattle.loop_data.specs.declared.statement.Branch.{Branch}
use Rattle.loop_data.specs.declared.statement.Statement.TheOpen.{Statement-F, Statement-F as s, Branch-F}
use Rattle.loop_data.specs.declared.statement.Statement.TheFolds.{fold-Statement, fold-Branch}
use Rattle.loop_grammar.specs.declared.tree.ProgramTree.{ProgramTree}
use Rattle.loop_meaning.specs.declared.steps.Pair.{Pair}
use Rattle.loop_meaning.specs.declared.reducers.Site.{Site}
use Rattle.loop_meaning.specs.declared.runs.Named.{Named}
use Rattle.loop_meaning.specs.declared.runs.PlainEnd.{PlainEnd}
use Rattle.loop_meaning.specs.declared.runs.Run.{Run}
use Rattle.loop_meaning.specs.Runs.{loop_run}
use Rattle.loop_meaning.specs.Stores.{start_store}

-- ---- `@reduce` lines

-- what is told of an `@reduce` line, by its reducer's name, its tower and the value after `from`
abbrev pub Telling : Type 0 → Type 0
Telling A = List ℕ → TowerExpr → Option Value → A

abbrev pub all_told : {A : Type 0} → List (List A) → List A
all_told [] = []
all_told (told ∷ more) = told ++ all_told more

abbrev pub branch_told : {A : Type 0} → Branch-F (List A) (List A) → List A
branch_told b = all_told b.block

-- one layer of a statement, given what is told of the `@reduce` lines of its parts
abbrev pub told_step : {A : Type 0} → Telling A → Statement-F (List A) (List A) → List A
told_step tell (s.If line branches else_line other end_line) = all_told branches ++ all_told other
told_step tell (s.Reduce line name tower start) = tell name tower start ∷ []
told_step tell _ = []

abbrev pub told_in : {A : Type 0} → Telling A → Statement → List A
told_in {A} tell = fold-Statement (List A) (List A) (told_step tell) branch_told

abbrev pub told_in_branch : {A : Type 0} → Telling A → Branch → List A
told_in_branch {A} tell = fold-Branch (List A) (List A) (told_step tell) branch_told

-- what is told of the `@reduce` lines of a program, by rising lines
abbrev pub told_of : {A : Type 0} → Telling A → ProgramTree → List A
told_of tell program = all_told (map (told_in tell) program.body)

-- a line with its reducer's name and the value after `from`
abbrev pub site_told : Telling Site
site_told name tower start = record { name = name; start = start }

abbrev pub all_sites : List (List Site) → List Site
all_sites = all_told

abbrev pub branch_sites : Branch-F (List Site) (List Site) → List Site
branch_sites = branch_told

abbrev pub sites_step : Statement-F (List Site) (List Site) → List Site
sites_step = told_step site_told

abbrev pub sites_in : Statement → List Site
sites_in = told_in site_told

abbrev pub sites_in_branch : Branch → List Site
sites_in_branch = told_in_branch site_told

-- the `@reduce` lines of a program, by rising lines
abbrev pub sites_of : ProgramTree → List Site
sites_of = told_of site_told

-- ---- reducers

-- each name once, where it stands first
abbrev pub each_once : List (List ℕ) → List (List ℕ)
each_once [] = []
each_once (n ∷ ns) = n ∷ filter (λ m. not (bytes_eq m n)) (each_once ns)

-- the names of the reducers, in the order of their first lines
abbrev pub reducers_of : ProgramTree → List (List ℕ)
reducers_of program = each_once (map (λ site. site.name) (sites_of program))

-- the value after `from` on the first of these lines that has this name
abbrev pub start_among : List Site → List ℕ → Option Value
start_among [] name = None
start_among (site ∷ sites) name = if bytes_eq site.name name then site.start else start_among sites name

abbrev pub start_of : ProgramTree → List ℕ → Option Value
start_of program = start_among (sites_of program)

-- ---- inputs

abbrev pub or_none : Option Value → List Value
or_none None = []
or_none (Some v) = v ∷ []

-- what was emitted under a name, in order
abbrev pub emitted_under : List ℕ → List Pair → List Value
emitted_under name emitted = map (λ x. x.input) (filter (λ x. bytes_eq x.name name) emitted)

-- the inputs of a name, given the `@reduce` lines: its start value, where it has one, and then all that was emitted under it, in
-- order
abbrev pub inputs_among : List Site → List Pair → List ℕ → List Value
inputs_among sites emitted name = or_none (start_among sites name) ++ emitted_under name emitted

abbrev pub inputs_of : ProgramTree → List Pair → List ℕ → List Value
inputs_of program = inputs_among (sites_of program)

-- a name with its inputs
abbrev pub named_among : List Site → List Pair → List ℕ → Named
named_among sites emitted name = record { name = name; list = inputs_among sites emitted name }

-- ---- the whole

-- how a run ended, with the inputs of each reducer
abbrev pub end_of_run : ProgramTree → Run → PlainEnd
end_of_run program run = record {
  stop = run.stop;
  inputs = map (named_among (sites_of program) run.emitted) (reducers_of program);
  skipped = run.skipped;
}

-- the plain loop over all items, from the store in which it begins and place 1
abbrev pub plain_end : ProgramTree → List Value → PlainEnd
plain_end program items = end_of_run program (loop_run program (start_store program) items 1)

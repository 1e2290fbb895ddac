-- All paths of one body run: what each reads and assigns, in order, whatever the conditions are.
-- Source: this project's language.
use Rattle.std.specs.Prelude.{ℕ, ◌==◌, Bool, true, false, not, ◌&&◌, ◌||◌, if◌then◌else◌, List, [], ◌∷◌, ◌++◌, map, flat_map}
use Rattle.std.specs.List.{list_any}
use Rattle.std.specs.Str.{bytes_eq}
use Rattle.loop_data.specs.declared.statement.Statement.{Statement}
use Rattle.loop_data.specs.declared.statement.Branch.{Branch}
use Rattle.loop_data.specs.declared.statement.Statement.TheOpen.{Statement-F, Statement-F as s, Branch-F}
use Rattle.loop_data.specs.declared.statement.Statement.TheFolds.{fold-Statement, fold-Branch}
use Rattle.loop_grammar.specs.declared.tree.ProgramTree.{ProgramTree}
use Rattle.loop_values.specs.NamesIn.{names_read}
use Rattle.tower_inputs.specs.Towers.{names_read_in_tower}

-- what happens on a path: a line reads a name, or a name is assigned
pub data Event : Type 0 where
  reads : ℕ → List ℕ → Event
  assigns : List ℕ → Event

-- what happens on one path, in order, and whether the body run goes on after it
pub record Path : Type 0 where
  pub events : List Event
  pub goes_on : Bool

-- the path goes on, or ends the body run
abbrev pub going : List Event → Path
going events = record { events = events; goes_on = true }

abbrev pub ending : List Event → Path
ending events = record { events = events; goes_on = false }

-- the events, and then the path
abbrev pub after : List Event → Path → Path
after events path = record { events = events ++ path.events; goes_on = path.goes_on }

-- a path that goes on, with each of the others after it; a path that ends as it is
abbrev pub followed_by : List Path → Path → List Path
followed_by others path = if path.goes_on then map (after path.events) others else path ∷ []

-- the paths through one thing after another
abbrev pub paths_in_turn : List (List Path) → List Path
paths_in_turn [] = going [] ∷ []
paths_in_turn (paths ∷ more) = flat_map (followed_by (paths_in_turn more)) paths

abbrev pub line_reads : ℕ → List (List ℕ) → List Event
line_reads line names = map (reads line) names

-- the paths of a condition with its block, told those where it doesn't hold
abbrev pub Branching : Type 0
Branching = List Path → List Path

-- one branch is taken: a block whose condition is read after those of the branches before it, or what stands under `else`
abbrev pub paths_of_one : List Branching → List Path → List Path
paths_of_one [] other = other
paths_of_one (branch ∷ more) other = branch (paths_of_one more other)

abbrev pub branch_step : Branch-F (List Path) Branching → Branching
branch_step b other = map (after (line_reads b.line (names_read b.test))) (paths_in_turn b.block ++ other)

-- One layer of a statement, given the paths of its parts. An assignment reads before it writes; an `@keep` goes on or ends the
-- body run; with no `else` nothing happens where no condition holds.
abbrev pub paths_step : Statement-F (List Path) Branching → List Path
paths_step (s.Let line ns x) = going (line_reads line (names_read x)) ∷ []
paths_step (s.Set line n x) = going (line_reads line (names_read x) ++ assigns n ∷ []) ∷ []
paths_step (s.If line branches else_line other end_line) = paths_of_one branches (paths_in_turn other)
paths_step (s.Keep line n x) = going (line_reads line (names_read x)) ∷ ending (line_reads line (names_read x)) ∷ []
paths_step (s.Reduce line n tower start) = going (line_reads line (names_read_in_tower tower)) ∷ []
paths_step (s.Continue line) = ending [] ∷ []
paths_step (s.Break line) = ending [] ∷ []

abbrev pub statement_paths : Statement → List Path
statement_paths = fold-Statement (List Path) Branching paths_step branch_step

abbrev pub branch_paths : Branch → Branching
branch_paths = fold-Branch (List Path) Branching paths_step branch_step

-- the paths of one body run
abbrev pub paths_of : ProgramTree → List Path
paths_of program = paths_in_turn (map statement_paths program.body)

-- whether these events reach the line's read of the name with no assignment of the name before it
abbrev pub reads_first : ℕ → List ℕ → List Event → Bool
reads_first line n [] = false
reads_first line n (reads l m ∷ events) = l == line && bytes_eq n m || reads_first line n events
reads_first line n (assigns m ∷ events) = not (bytes_eq n m) && reads_first line n events

-- whether some path does
abbrev pub is_reached : List Path → ℕ → List ℕ → Bool
is_reached paths line n = list_any (λ path. reads_first line n path.events) paths

-- ---- names that aren't surely written

-- whether the name is assigned on the way
abbrev pub assigned_on : List ℕ → List Event → Bool
assigned_on n [] = false
assigned_on n (reads line m ∷ events) = assigned_on n events
assigned_on n (assigns m ∷ events) = bytes_eq n m || assigned_on n events

-- whether the path goes on, and hasn't assigned the name
abbrev pub misses_on : List ℕ → Path → Bool
misses_on n path = path.goes_on && not (assigned_on n path.events)

-- whether some path goes on and hasn't assigned the name: where none does, the name is surely written
abbrev pub misses : List ℕ → List Path → Bool
misses n paths = list_any (misses_on n) paths

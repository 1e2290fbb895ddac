-- What the pass for carried scratches answers, told the scratches that may be carried: rule 4. Internal.
-- Source: this project's language.
use Rattle.std.specs.Prelude.{ℕ, Bool, true, false, not, ◌&&◌, ◌||◌, if◌then◌else◌, List, [], ◌∷◌, ◌++◌, map, filter, length}
use Rattle.std.specs.Prelude.{replicate, Result, Ok}
use Rattle.std.specs.Str.{bytes_eq}
use Rattle.loop_data.specs.declared.head.Binding.{Binding}
use Rattle.loop_data.specs.declared.statement.Statement.{Statement}
use Rattle.loop_data.specs.declared.statement.Branch.{Branch}
use Rattle.loop_data.specs.declared.statement.Statement.TheOpen.{Statement-F, Statement-F as s, Branch-F}
use Rattle.loop_data.specs.declared.statement.Statement.TheFolds.{fold-Statement, fold-Branch}
use Rattle.loop_grammar.specs.declared.tree.ProgramTree.{ProgramTree}
use Rattle.loop_values.specs.NamesIn.{names_read}
use Rattle.tower_inputs.specs.Towers.{names_read_in_tower}
use Rattle.legality_rules.specs.declared.refusal.LegalRefusal.{LegalRefusal}
use Rattle.legality_rules.specs.Scopes.{is_in}
use Rattle.legality_names.specs.declared.deeds.Deed.TheVariants.{Assigns}
use Rattle.legality_names.specs.Answers.{answer, leftmost, named, and_then}
use Rattle.legality_names.specs.Deeds.{done_in}
use Rattle.legality_names.specs.Names.{head_names}

-- ---- which scratches are open

-- whether the name is one of these scratches, and open
abbrev pub is_open : List (List ℕ) → List Bool → List ℕ → Bool
is_open [] marks n = false
is_open (m ∷ ms) [] n = false
is_open (m ∷ ms) (b ∷ bs) n = if bytes_eq n m then b else is_open ms bs n

-- after an assignment of the name
abbrev pub close : List (List ℕ) → List Bool → List ℕ → List Bool
close [] marks n = []
close (m ∷ ms) [] n = []
close (m ∷ ms) (b ∷ bs) n = (b && not (bytes_eq m n)) ∷ close ms bs n

-- where no path goes on
abbrev pub none_open : List Bool → List Bool
none_open marks = replicate (length marks) false

-- where two branches meet
abbrev pub where_either : List Bool → List Bool → List Bool
where_either [] other = []
where_either (x ∷ xs) [] = []
where_either (x ∷ xs) (y ∷ ys) = (x || y) ∷ where_either xs ys

-- ---- the pass

abbrev pub Scanned : Type 0
Scanned = Result (List Bool) LegalRefusal

abbrev pub Scan : Type 0
Scan = List Bool → Scanned

-- a line that reads these names
abbrev pub reads_scanned : List (List ℕ) → ℕ → List (List ℕ) → List Bool → Result (Unit {0}) LegalRefusal
reads_scanned names line used marks = answer (named 4 line (leftmost (filter (is_open names marks) used)))

abbrev pub block_scanned : List Scan → Scan
block_scanned [] marks = Ok marks
block_scanned (scan ∷ scans) marks = and_then (scan marks) (block_scanned scans)

-- told what is open before the branches, and after those that are done
abbrev pub branches_scanned : List Scan → List Bool → Scan
branches_scanned [] marks out = Ok out
branches_scanned (scan ∷ scans) marks out = and_then (scan marks) (λ after. branches_scanned scans marks (where_either out after))

abbrev pub branch_step : List (List ℕ) → Branch-F Scan Scan → Scan
branch_step names b marks = and_then (reads_scanned names b.line (names_read b.test) marks) (λ _. block_scanned b.block marks)

abbrev pub statement_step : List (List ℕ) → Statement-F Scan Scan → Scan
statement_step names (s.Let line ns x) marks = and_then (reads_scanned names line (names_read x) marks) (λ _. Ok marks)
statement_step names (s.Set line n x) marks =
    and_then (reads_scanned names line (names_read x) marks) (λ _. Ok (close names marks n))
statement_step names (s.If line branches else_line other end_line) marks =
    and_then (branches_scanned branches marks (none_open marks)) (λ out.
    and_then (block_scanned other marks) (λ after. Ok (where_either out after)))
statement_step names (s.Keep line n x) marks = and_then (reads_scanned names line (names_read x) marks) (λ _. Ok marks)
statement_step names (s.Reduce line n tower start) marks =
    and_then (reads_scanned names line (names_read_in_tower tower) marks) (λ _. Ok marks)
statement_step names (s.Continue line) marks = Ok (none_open marks)
statement_step names (s.Break line) marks = Ok (none_open marks)

abbrev pub statement_scanned : List (List ℕ) → Statement → Scan
statement_scanned names = fold-Statement Scan Scan (statement_step names) (branch_step names)

abbrev pub branch_scanned : List (List ℕ) → Branch → Scan
branch_scanned names = fold-Branch Scan Scan (statement_step names) (branch_step names)

-- the names that the lines before the `@init` lines bind
abbrev pub outer_names : ProgramTree → List (List ℕ)
outer_names p = head_names p.head ++ map (λ (b : Binding). b.name) p.vars

-- the scratches that may be carried
abbrev pub carriable : ProgramTree → List (List ℕ)
carriable p =
    filter (λ n. is_in (done_in Assigns p.body) n && not (is_in (outer_names p) n))
    (map (λ (b : Binding). b.name) p.scratch)

abbrev pub without_state : Scanned → Result (Unit {0}) LegalRefusal
without_state r = and_then r (λ _. Ok tt)

abbrev pub program_scanned : ProgramTree → Result (Unit {0}) LegalRefusal
program_scanned p =
    without_state (block_scanned (map (statement_scanned (carriable p)) p.body) (replicate (length (carriable p)) true))

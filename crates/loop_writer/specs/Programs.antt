-- The canonical text of a program: its lines in order, each with its number and with how many
-- blocks are open round it.
-- Source: this project's language.
use Rattle.std.specs.Prelude.{ℕ, ◌+◌, ◌==◌, Bool, true, false, List, [], ◌∷◌, ◌++◌, map, flat_map}
use Rattle.std.specs.Prelude.{Option, Some, None, if◌then◌else◌}
use Rattle.loop_data.specs.declared.expr.Expr.{Expr}
use Rattle.loop_data.specs.declared.statement.Statement.{Statement}
use Rattle.loop_data.specs.declared.statement.Branch.{Branch}
use Rattle.loop_data.specs.declared.statement.Statement.TheOpen.{Statement-F, Statement-F as s, Branch-F}
use Rattle.loop_data.specs.declared.statement.Statement.TheFolds.{fold-Statement, fold-Branch}
use Rattle.loop_data.specs.declared.head.Binding.{Binding}
use Rattle.loop_data.specs.declared.head.HeadLine.{HeadLine}
use Rattle.loop_data.specs.declared.head.PrintLine.{PrintLine}
use Rattle.loop_grammar.specs.declared.line.Line.{Line}
use Rattle.loop_grammar.specs.declared.line.Line.TheVariants as l
use Rattle.loop_grammar.specs.declared.tree.ProgramTree.{ProgramTree}
use Rattle.loop_layout.specs.Rows.{Row, rows_text}
use Rattle.loop_layout.specs.Canonical.{line_text}

-- a line with its number, inside so many open blocks
pub record Placed : Type 0 where
  pub depth : ℕ
  pub line : ℕ
  pub form : Line

abbrev pub placed_at : ℕ → ℕ → Line → Placed
placed_at d n form = record { depth = d; line = n; form = form }

-- the lines of something, told how many blocks are open round it
abbrev pub Lines : Type 0
Lines = ℕ → List Placed

-- the lines of a condition with its block, told whether it is the first of its `if`
abbrev pub BranchLines : Type 0
BranchLines = Bool → Lines

-- the lines of statements one below another
abbrev pub all_lines : List Lines → Lines
all_lines xs d = flat_map (λ x. x d) xs

-- the lines of an `if`'s conditions with their blocks, the first of which stands on the `if` line
abbrev pub branches_lines : List BranchLines → Lines
branches_lines [] d = []
branches_lines (b ∷ bs) d = b true d ++ flat_map (λ c. c false d) bs

-- the `else` line on line n with its block; where n is 0 there is none
abbrev pub else_lines : ℕ → List Lines → Lines
else_lines n block d = if n == 0 then [] else placed_at d n l.Else ∷ all_lines block (d + 1)

abbrev pub condition : Bool → Expr → Line
condition true test = l.If test
condition false test = l.ElseIf test

abbrev pub branch_step : Branch-F Lines BranchLines → BranchLines
branch_step b first d = placed_at d b.line (condition first b.test) ∷ all_lines b.block (d + 1)

-- one layer of a statement, given the lines of its parts
abbrev pub statement_step : Statement-F Lines BranchLines → Lines
statement_step (s.Let n names x) d = placed_at d n (l.Let names x) ∷ []
statement_step (s.Set n name x) d = placed_at d n (l.Set name x) ∷ []
statement_step (s.If n branches else_line other m) d =
    branches_lines branches d ++ else_lines else_line other d ++ placed_at d m l.End ∷ []
statement_step (s.Keep n name x) d = placed_at d n (l.Keep name x) ∷ []
statement_step (s.Reduce n name x start) d = placed_at d n (l.Reduce name x start) ∷ []
statement_step (s.Continue n) d = placed_at d n l.Continue ∷ []
statement_step (s.Break n) d = placed_at d n l.Break ∷ []

abbrev pub statement_lines : Statement → Lines
statement_lines = fold-Statement Lines BranchLines statement_step branch_step

abbrev pub branch_lines : Branch → BranchLines
branch_lines = fold-Branch Lines BranchLines statement_step branch_step

abbrev pub block_lines : List Statement → Lines
block_lines block = all_lines (map statement_lines block)

abbrev pub var_line : Binding → Placed
var_line b = placed_at 0 b.line (l.Var b.name b.value)

abbrev pub init_line : Binding → Placed
init_line b = placed_at 1 b.line (l.Init b.name b.value)

abbrev pub print_line : PrintLine → Placed
print_line p = placed_at 0 p.line (l.Print p.name)

abbrev pub for_line : HeadLine → Placed
for_line h =
    placed_at 0 h.line (l.For (record {
      names = h.names;
      axes = h.axes;
      product = h.product;
      inner = h.inner;
    }))

-- the line `on fault skip`, where it stands
abbrev pub skip_lines : Option ℕ → List Placed
skip_lines None = []
skip_lines (Some n) = placed_at 0 n l.SkipFaults ∷ []

-- all lines of a program in order
abbrev pub placed : ProgramTree → List Placed
placed p =
    skip_lines p.skip_line ++ map var_line p.vars ++ for_line p.head ∷
    map init_line p.scratch ++ block_lines p.body 1 ++ placed_at 0 p.head.end_line l.End ∷
    map print_line p.prints

abbrev pub row_of : Placed → Row
row_of p = record { line = p.line; bytes = line_text p.depth p.form }

-- Each line stands on its own number, those that the program doesn't use are empty, and nothing
-- follows the last.
abbrev pub canonical_text : ProgramTree → List ℕ
canonical_text p = rows_text 1 (map row_of (placed p))

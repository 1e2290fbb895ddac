-- The lines of a tree, in order, each with its number.
-- Source: this project's language.
use Rattle.std.specs.Prelude.{ℕ, ◌==◌, Bool, true, false, List, [], ◌∷◌, map, Option, Some, None, if◌then◌else◌}
use Rattle.loop_data.specs.declared.expr.Expr.{Expr}
use Rattle.loop_data.specs.declared.head.Binding.{Binding}
use Rattle.loop_data.specs.declared.head.HeadLine.{HeadLine}
use Rattle.loop_data.specs.declared.head.PrintLine.{PrintLine}
use Rattle.loop_data.specs.declared.statement.Statement.{Statement}
use Rattle.loop_data.specs.declared.statement.Branch.{Branch}
use Rattle.loop_data.specs.declared.statement.Statement.TheOpen.{Statement-F, Statement-F as s, Branch-F}
use Rattle.loop_data.specs.declared.statement.Statement.TheFolds.{fold-Statement, fold-Branch}
use Rattle.loop_grammar.specs.declared.line.Line.{Line}
use Rattle.loop_grammar.specs.declared.line.Line.TheVariants as l
use Rattle.loop_grammar.specs.declared.line.Heads.{Heads}
use Rattle.loop_grammar.specs.declared.line.NumberedLine.{NumberedLine}
use Rattle.loop_grammar.specs.declared.tree.ProgramTree.{ProgramTree}
use Rattle.loop_grammar.specs.Nesting.{on}

-- the lines of something, before others
abbrev pub Before : Type 0
Before = List NumberedLine → List NumberedLine

abbrev pub all_before : List Before → Before
all_before [] rest = rest
all_before (p ∷ ps) rest = p (all_before ps rest)

-- a condition with its block is told whether it is the first of its `if`
abbrev pub test_line : Bool → Expr → Line
test_line true p = l.If p
test_line false p = l.ElseIf p

abbrev pub more_before : List (Bool → Before) → Before
more_before [] rest = rest
more_before (b ∷ bs) rest = b false (more_before bs rest)

abbrev pub branches_before : List (Bool → Before) → Before
branches_before [] rest = rest
branches_before (b ∷ bs) rest = b true (more_before bs rest)

-- an `else_line` of 0 says that there is no `else`
abbrev pub else_before : ℕ → List Before → Before
else_before n ps rest = if n == 0 then rest else on n l.Else ∷ all_before ps rest

abbrev pub branch_layer : Branch-F Before (Bool → Before) → Bool → Before
branch_layer b first rest = on b.line (test_line first b.test) ∷ all_before b.block rest

abbrev pub statement_layer : Statement-F Before (Bool → Before) → Before
statement_layer (s.Let n names p) rest = on n (l.Let names p) ∷ rest
statement_layer (s.Set n name p) rest = on n (l.Set name p) ∷ rest
statement_layer (s.If n branches else_line other m) rest =
    branches_before branches (else_before else_line other (on m l.End ∷ rest))
statement_layer (s.Keep n name p) rest = on n (l.Keep name p) ∷ rest
statement_layer (s.Reduce n name p start) rest = on n (l.Reduce name p start) ∷ rest
statement_layer (s.Continue n) rest = on n l.Continue ∷ rest
statement_layer (s.Break n) rest = on n l.Break ∷ rest

abbrev pub statement_before : Statement → Before
statement_before = fold-Statement Before (Bool → Before) statement_layer branch_layer

abbrev pub branch_before : Branch → Bool → Before
branch_before = fold-Branch Before (Bool → Before) statement_layer branch_layer

abbrev pub skip_before : Option ℕ → Before
skip_before None rest = rest
skip_before (Some n) rest = on n l.SkipFaults ∷ rest

abbrev pub vars_before : List Binding → Before
vars_before [] rest = rest
vars_before (b ∷ bs) rest = on b.line (l.Var b.name b.value) ∷ vars_before bs rest

abbrev pub inits_before : List Binding → Before
inits_before [] rest = rest
inits_before (b ∷ bs) rest = on b.line (l.Init b.name b.value) ∷ inits_before bs rest

abbrev pub prints_of : List PrintLine → List NumberedLine
prints_of [] = []
prints_of (p ∷ ps) = on p.line (l.Print p.name) ∷ prints_of ps

abbrev pub heads_of : HeadLine → Heads
heads_of h = record { names = h.names; axes = h.axes; product = h.product; inner = h.inner }

-- all lines of a program in order, each with its number
abbrev pub tree_lines : ProgramTree → List NumberedLine
tree_lines p = skip_before p.skip_line (vars_before p.vars (on p.head.line (l.For (heads_of p.head)) ∷
    inits_before p.scratch (all_before (map statement_before p.body) (on p.head.end_line l.End ∷ prints_of p.prints))))

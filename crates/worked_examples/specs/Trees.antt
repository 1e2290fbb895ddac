-- Trees written by hand: one that is well formed, and for each point of the test one that is refused.
-- Source: this project.
use Rattle.std.specs.Prelude.{◌≡◌, ℕ, zero, suc, ◌-◌, ◌^◌, Bool, true, false, List, [], ◌∷◌, map, None, pos, negsuc, codes}
use Rattle.loop_data.specs.declared.value.Value.TheVariants as val
use Rattle.loop_data.specs.declared.expr.Op.TheVariants as op
use Rattle.loop_data.specs.declared.expr.Expr.{Expr}
use Rattle.loop_data.specs.declared.expr.Expr.TheVariants as e
use Rattle.loop_data.specs.declared.tower.Kind.TheVariants as kind
use Rattle.loop_data.specs.declared.tower.TowerExpr.{TowerExpr}
use Rattle.loop_data.specs.declared.tower.TowerExpr.TheVariants as tower
use Rattle.loop_data.specs.declared.head.Axis.{Axis}
use Rattle.loop_data.specs.declared.head.Axis.TheVariants as axis
use Rattle.loop_data.specs.declared.head.HeadLine.{HeadLine}
use Rattle.loop_data.specs.declared.head.Inner.{Inner}
use Rattle.loop_data.specs.declared.statement.Statement.{Statement}
use Rattle.loop_data.specs.declared.statement.Statement.TheVariants as s
use Rattle.loop_grammar.specs.declared.line.Line.{Line}
use Rattle.loop_grammar.specs.declared.line.Line.TheVariants as l
use Rattle.loop_grammar.specs.declared.line.NumberedLine.{NumberedLine}
use Rattle.loop_grammar.specs.Nesting.{on}
use Rattle.loop_grammar.specs.declared.tree.ProgramTree.{ProgramTree}
use Rattle.loop_grammar.specs.Texts.{SpellsProgram}
use Rattle.loop_grammar.specs.TreeLines.{tree_lines}
use Rattle.loop_grammar.specs.WellFormed.{is_name, is_literal, is_expr, is_form, is_within, are_lines, all_fit}
use Rattle.loop_grammar.specs.WellFormed.{statement_fits, most_inside, is_well_formed}
use Rattle.loop_writer.specs.Programs.{canonical_text}

abbrev pub int : ℕ → Expr
int n = e.Lit (val.Int (pos n))

abbrev pub upto : ℕ → Axis
upto n = axis.Steps (record { first = int 1; step = None; last = int n })

-- `for x in 1:3` on line 1, with its `end` on line m
abbrev pub head_to : ℕ → HeadLine
head_to m = record { line = 1; names = codes "x" ∷ []; axes = upto 3 ∷ []; product = false; inner = []; end_line = m }

-- a program of one loop
abbrev pub loop : HeadLine → List Statement → ProgramTree
loop head body = record { skip_line = None; vars = []; head = head; scratch = []; body = body; prints = [] }

-- the expressions of a program
abbrev pub doubled : Expr
doubled = e.Two op.Mul (e.Neg (e.Name (codes "x"))) (int 2)

abbrev pub below : Expr
below = e.Two op.Lt (e.Name (codes "y")) (int 0)

abbrev pub second : Expr
second = e.Two op.Eq (e.Name (codes "x")) (int 2)

abbrev pub summed : TowerExpr
summed = tower.Leaf kind.Sum (e.Name (codes "y"))

abbrev pub grouped : TowerExpr
grouped = tower.Grouped (e.Lit (val.Text (codes "k"))) (tower.Both (tower.Leaf kind.Greatest (e.Name (codes "y"))) tower.Count)

-- for x in 1:3
--   let y = (-x) * 2
--   if y < 0
--     @reduce s += y
--   elseif x == 2
--   else
--     continue
--   end
--   @reduce b = group("k", both(max(y), count()))
-- end
-- print s
abbrev pub well_formed_tree : ProgramTree
well_formed_tree = record {
  skip_line = None;
  vars = [];
  head = head_to 10;
  scratch = [];
  body = s.Let 2 (codes "y" ∷ []) doubled ∷
      s.If 3 (record { line = 3; test = below; block = s.Reduce 4 (codes "s") summed None ∷ [] } ∷ record { line = 5; test = second; block = [] } ∷ []) 6 (s.Continue 7 ∷ []) 8 ∷
      s.Reduce 9 (codes "b") grouped None ∷ [];
  prints = record { line = 11; name = codes "s" } ∷ [];
}

-- the lines of that tree
abbrev pub its_lines : List NumberedLine
its_lines = on 1 (l.For (record { names = codes "x" ∷ []; axes = upto 3 ∷ []; product = false; inner = [] })) ∷
    on 2 (l.Let (codes "y" ∷ []) doubled) ∷ on 3 (l.If below) ∷
    on 4 (l.Reduce (codes "s") summed None) ∷ on 5 (l.ElseIf second) ∷ on 6 l.Else ∷ on 7 l.Continue ∷ on 8 l.End ∷
    on 9 (l.Reduce (codes "b") grouped None) ∷ on 10 l.End ∷ on 11 (l.Print (codes "s")) ∷ []

-- an `if` on line n with one branch, which stands on line k
abbrev pub if_on : ℕ → ℕ → List Statement → ℕ → List Statement → ℕ → Statement
if_on n k block else_line other m = s.If n (record { line = k; test = below; block = block } ∷ []) else_line other m

-- so many `if`s within one another, round nothing; none of their lines is looked at
abbrev pub nested : ℕ → List Statement
nested zero = []
nested (suc n) = if_on 2 2 (nested n) 0 [] 3 ∷ []

-- so many `not` before x
abbrev pub nots : ℕ → Expr
nots zero = e.Name (codes "x")
nots (suc n) = e.Not (nots n)

-- so many groups within one another
abbrev pub groups : ℕ → TowerExpr
groups zero = tower.Count
groups (suc n) = tower.Grouped (e.Name (codes "x")) (groups n)

-- a `for` line over these axes
abbrev pub for_over : List (List ℕ) → List Axis → Bool → List Inner → Line
for_over names axes product inner = l.For (record { names = names; axes = axes; product = product; inner = inner })

abbrev pub inner_head : Inner
inner_head = record { name = codes "i"; range = record { first = int 1; step = None; last = int 2 } }

-- the tree passes the test, and its lines are these; so its canonical text spells it
abbrev pub PassesWhole : Type 0
PassesWhole = (tree_lines well_formed_tree ≡ its_lines) × (is_well_formed well_formed_tree ≡ true) ×
    SpellsProgram (canonical_text well_formed_tree) well_formed_tree

-- no reserved word is a name, nor is what begins with a digit or an `@`
abbrev pub RefusesNames : Type 0
RefusesNames = (is_name (codes "place") ≡ false) × (is_name (codes "for") ≡ false) × (is_name (codes "2x") ≡ false) ×
    (is_name (codes "@item") ≡ false) × (is_name [] ≡ false) ×
    (is_name (codes "places") ≡ true) × (is_name (codes "_2") ≡ true)

-- numbers are of 64 bits, texts are UTF-8, and no other value is a literal
abbrev pub RefusesLiterals : Type 0
RefusesLiterals = (is_literal (val.Int (pos (2 ^ 63))) ≡ false) × (is_literal (val.Int (negsuc (2 ^ 63))) ≡ false) ×
    (is_literal val.Nothing ≡ false) × (is_literal (val.Text (255 ∷ [])) ≡ false) ×
    (is_literal (val.Int (negsuc (2 ^ 63 - 1))) ≡ true)

-- tuples, patterns, zips, products and inner heads have as many parts as they may
abbrev pub RefusesParts : Type 0
RefusesParts = (is_expr (e.Tuple (int 1 ∷ [])) ≡ false) ×
    (is_expr (e.Tuple (int 1 ∷ int 2 ∷ int 3 ∷ int 4 ∷ int 5 ∷ [])) ≡ false) ×
    (is_form (for_over [] (upto 3 ∷ []) false []) ≡ false) ×
    (is_form (for_over (codes "a" ∷ codes "b" ∷ codes "c" ∷ codes "d" ∷ codes "e" ∷ []) (upto 3 ∷ []) false []) ≡ false) ×
    (is_form (for_over (codes "x" ∷ []) (upto 3 ∷ upto 3 ∷ []) false []) ≡ false) ×
    (is_form (for_over (codes "x" ∷ []) (upto 3 ∷ []) true []) ≡ false) ×
    (is_form (for_over (codes "x" ∷ []) (axis.Zip (upto 3 ∷ []) ∷ []) false []) ≡ false) ×
    (is_form (for_over (codes "x" ∷ []) (axis.Zip (upto 3 ∷ axis.Zip (upto 3 ∷ upto 3 ∷ []) ∷ []) ∷ []) false []) ≡ false) ×
    (is_form (for_over (codes "x" ∷ []) (upto 3 ∷ []) false (inner_head ∷ inner_head ∷ inner_head ∷ inner_head ∷ [])) ≡ false) ×
    (is_form (l.Reduce (codes "s") (tower.Leaf kind.Count (int 1)) None) ≡ false)

-- lines stand one below another, the first on line 1 or below
abbrev pub RefusesOrder : Type 0
RefusesOrder = (is_well_formed (loop (head_to 1) []) ≡ false) ×
    (is_well_formed (loop (head_to 3) (s.Break 3 ∷ [])) ≡ false) × (are_lines 0 (on 0 l.End ∷ []) ≡ false)

-- an `if` has a branch, which stands on its line, and no block of `else` without `else`
abbrev pub RefusesBranches : Type 0
RefusesBranches = (is_well_formed (loop (head_to 4) (s.If 2 [] 0 [] 3 ∷ [])) ≡ false) ×
    (is_well_formed (loop (head_to 5) (if_on 2 3 [] 0 [] 4 ∷ [])) ≡ false) ×
    (is_well_formed (loop (head_to 5) (if_on 2 2 [] 0 (s.Break 3 ∷ []) 4 ∷ [])) ≡ false)

-- sixteen blocks, four groups and 256 tokens that are no parentheses are the most
abbrev pub RefusesDepth : Type 0
RefusesDepth = (all_fit (map statement_fits (nested 15)) most_inside ≡ true) ×
    (all_fit (map statement_fits (nested 16)) most_inside ≡ false) ×
    (is_within (l.Reduce (codes "s") (groups 4) None) ≡ true) × (is_within (l.Reduce (codes "s") (groups 5) None) ≡ false) ×
    (is_within (l.If (nots 254)) ≡ true) × (is_within (l.If (nots 255)) ≡ false)

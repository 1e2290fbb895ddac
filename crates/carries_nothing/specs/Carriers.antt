-- Two loops that carry something: one assigns an outer variable, and one reads a scratch that isn't written on some path. So an
-- item sees what an item before it left. Source: this project.
use Rattle.std.specs.Prelude.{List, [], ◌∷◌, None, false, codes, pos}
use Rattle.loop_data.specs.declared.value.Value.TheVariants.{Int}
use Rattle.loop_data.specs.declared.expr.Op.TheVariants.{Add, Gt}
use Rattle.loop_data.specs.declared.expr.Expr.{Expr}
use Rattle.loop_data.specs.declared.expr.Expr.TheVariants as e
use Rattle.loop_data.specs.declared.tower.Kind.TheVariants.{Sum}
use Rattle.loop_data.specs.declared.tower.TowerExpr.{TowerExpr}
use Rattle.loop_data.specs.declared.tower.TowerExpr.TheVariants as t
use Rattle.loop_data.specs.declared.head.Axis.{Axis}
use Rattle.loop_data.specs.declared.head.Axis.TheVariants as a
use Rattle.loop_data.specs.declared.statement.Statement.{Statement}
use Rattle.loop_data.specs.declared.statement.Branch.{Branch}
use Rattle.loop_data.specs.declared.statement.Statement.TheVariants as s
use Rattle.loop_grammar.specs.declared.tree.ProgramTree.{ProgramTree}

-- `1:3`
abbrev pub one_to_three : Axis
one_to_three =
    a.Steps (record { first = e.Lit (Int (pos 1)); step = None; last = e.Lit (Int (pos 3)) })

-- ---- a scratch that isn't written on some path

-- `x > 2`
abbrev pub is_large : Expr
is_large = e.Two Gt (e.Name (codes "x")) (e.Lit (Int (pos 2)))

-- `if x > 2`, `b = x`
abbrev pub large_branch : Branch
large_branch =
    record { line = 3; test = is_large; block = s.Set 4 (codes "b") (e.Name (codes "x")) ∷ [] }

-- the sum of b
abbrev pub sum_of_b : TowerExpr
sum_of_b = t.Leaf Sum (e.Name (codes "b"))

abbrev pub sometimes_body : List Statement
sometimes_body =
    s.If 3 (large_branch ∷ []) 0 [] 5 ∷ s.Reduce 6 (codes "s") sum_of_b None ∷ []

-- `for x in 1:3`, `@init b = 0`, `if x > 2`, `b = x`, `end`, `@reduce s += b`, `end`, `print s`
abbrev pub sometimes_written : ProgramTree
sometimes_written = record {
  skip_line = None;
  vars = [];
  head = record {
    line = 1;
    names = codes "x" ∷ [];
    axes = one_to_three ∷ [];
    product = false;
    inner = [];
    end_line = 7;
  };
  scratch = record { line = 2; name = codes "b"; value = Int (pos 0) } ∷ [];
  body = sometimes_body;
  prints = record { line = 8; name = codes "s" } ∷ [];
}

-- ---- an outer variable that is assigned

-- `t + x`
abbrev pub one_more_x : Expr
one_more_x = e.Two Add (e.Name (codes "t")) (e.Name (codes "x"))

-- the sum of t
abbrev pub sum_of_t : TowerExpr
sum_of_t = t.Leaf Sum (e.Name (codes "t"))

abbrev pub running_body : List Statement
running_body =
    s.Set 3 (codes "t") one_more_x ∷ s.Reduce 4 (codes "s") sum_of_t None ∷ []

-- `var t = 0`, `for x in 1:3`, `t = t + x`, `@reduce s += t`, `end`, `print s`
abbrev pub running_sum : ProgramTree
running_sum = record {
  skip_line = None;
  vars = record { line = 1; name = codes "t"; value = Int (pos 0) } ∷ [];
  head = record {
    line = 2;
    names = codes "x" ∷ [];
    axes = one_to_three ∷ [];
    product = false;
    inner = [];
    end_line = 5;
  };
  scratch = [];
  body = running_body;
  prints = record { line = 6; name = codes "s" } ∷ [];
}

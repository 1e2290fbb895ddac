-- Loops worked by hand: the stages to which they are lowered, and the lines of their breaks.
-- Source: this project.
use Rattle.std.specs.Prelude.{◌≡◌, ℕ, List, [], ◌∷◌, None, false, codes, pos}
use Rattle.loop_data.specs.declared.value.Value.TheVariants.{Int}
use Rattle.loop_data.specs.declared.expr.Op.TheVariants.{Eq}
use Rattle.loop_data.specs.declared.expr.Expr.{Expr}
use Rattle.loop_data.specs.declared.expr.RangeExpr.{RangeExpr}
use Rattle.loop_data.specs.declared.expr.Expr.TheVariants as e
use Rattle.loop_data.specs.declared.tower.Kind.TheVariants.{Sum}
use Rattle.loop_data.specs.declared.tower.TowerExpr.TheVariants as t
use Rattle.loop_data.specs.declared.head.Axis.TheVariants as a
use Rattle.loop_data.specs.declared.head.Inner.{Inner}
use Rattle.loop_data.specs.declared.statement.Statement.{Statement}
use Rattle.loop_data.specs.declared.statement.Branch.{Branch}
use Rattle.loop_data.specs.declared.statement.Statement.TheVariants as s
use Rattle.loop_grammar.specs.declared.tree.ProgramTree.{ProgramTree}
use Rattle.chain_stages.specs.declared.stages.Doing.TheVariants as d
use Rattle.chain_stages.specs.declared.stages.Source.TheVariants.{Item, Of}
use Rattle.chain_stages.specs.declared.stages.Stage.{Stage}
use Rattle.chain_stages.specs.declared.stages.Stage.TheVariants.{Map, MapSplat, Filter, KeepSomething, Cat, ReduceIf}
use Rattle.chain_stages.specs.declared.stages.Test.TheVariants as test
use Rattle.loop_stages.specs.Breaks.{stage_line}
use Rattle.loop_stages.specs.Lowering.{lowered}

-- ---- parts of loops

abbrev pub x : Expr
x = e.Name (codes "x")

abbrev pub y : Expr
y = e.Name (codes "y")

-- `x == y`
abbrev pub are_equal : Expr
are_equal = e.Two Eq x y

-- `1:x`
abbrev pub one_to_x : RangeExpr
one_to_x = record { first = e.Lit (Int (pos 1)); step = None; last = x }

abbrev pub branch : Statement → Branch
branch statement = record { line = 2; test = are_equal; block = statement ∷ [] }

-- `if x == y` on line 2, one statement on line 3, `end`
abbrev pub one_if : Statement → Statement
one_if statement = s.If 2 (branch statement ∷ []) 0 [] 4

-- the same with one statement more under `else`
abbrev pub if_else : Statement → Statement → Statement
if_else statement other = s.If 2 (branch statement ∷ []) 4 (other ∷ []) 6

-- `@reduce a = sum(x)`
abbrev pub reduce_on : ℕ → Statement
reduce_on line = s.Reduce line (codes "a") (t.Leaf Sum x) None

-- `for` over these names, one range and these further heads, and this body
abbrev pub loop_over : List (List ℕ) → List Inner → List Statement → ProgramTree
loop_over names inner body = record {
  skip_line = None;
  vars = [];
  head = record {
    line = 1;
    names = names;
    axes = a.Steps one_to_x ∷ [];
    product = false;
    inner = inner;
    end_line = 20;
  };
  scratch = [];
  body = body;
  prints = [];
}

-- `for x in ..` with this body
abbrev pub over_x : List Statement → ProgramTree
over_x body = loop_over (codes "x" ∷ []) [] body

-- the two stages from the split statement on
abbrev pub rest_from : ℕ → List Statement → List Stage
rest_from line statements = Map line (d.Rest statements) ∷ ReduceIf line test.Broke ∷ []

-- ---- a `break` before the first `@reduce`

-- `if x == y`, `break`, `end`, `@reduce a = sum(x)`
abbrev pub breaks_first : ProgramTree
breaks_first = over_x (one_if (s.Break 3) ∷ reduce_on 5 ∷ [])

abbrev pub BreaksFirst : Type 0
BreaksFirst =
    (lowered breaks_first
    ≡ ReduceIf 2 (test.If are_equal) ∷ Filter 2 (test.IfNot are_equal) ∷ rest_from 5 (reduce_on 5 ∷ []))
    × (stage_line breaks_first 3 ≡ 2)

-- ---- a `break` and a `continue` behind it

-- `@reduce a = sum(x)`, then on line 2 an `if` with a `break`, or with a `continue`
abbrev pub breaks_later : ProgramTree
breaks_later = over_x (reduce_on 1 ∷ one_if (s.Break 3) ∷ [])

abbrev pub continues_later : ProgramTree
continues_later = over_x (reduce_on 1 ∷ one_if (s.Continue 3) ∷ [])

abbrev pub EndsLater : Type 0
EndsLater =
    (lowered breaks_later ≡ rest_from 1 (reduce_on 1 ∷ one_if (s.Break 3) ∷ []))
    × (stage_line breaks_later 3 ≡ 1)
    × (lowered continues_later ≡ rest_from 1 (reduce_on 1 ∷ one_if (s.Continue 3) ∷ []))

-- ---- heads

-- `for (x, y) in ..`
abbrev pub with_parts : ProgramTree
with_parts = loop_over (codes "x" ∷ codes "y" ∷ []) [] (s.Let 2 (codes "z" ∷ []) x ∷ reduce_on 3 ∷ [])

-- `for x in .., y in 1:x`
abbrev pub with_inner : ProgramTree
with_inner = loop_over (codes "x" ∷ []) (record { name = codes "y"; range = one_to_x } ∷ []) (reduce_on 2 ∷ [])

abbrev pub HeadStages : Type 0
HeadStages =
    (lowered with_parts
    ≡ MapSplat 1 (codes "x" ∷ codes "y" ∷ []) Item ∷ Map 2 (d.Bind (codes "z") x) ∷ rest_from 3 (reduce_on 3 ∷ []))
    × (lowered with_inner
    ≡ Map 1 (d.Inner (codes "y") one_to_x) ∷ Cat 1 (codes "y") ∷ rest_from 2 (reduce_on 2 ∷ []))

-- ---- each other form of statement, in loops without an `@reduce`, so without the two stages of the rest

abbrev pub keeps : Statement
keeps = s.Keep 3 (codes "z") x

abbrev pub LineStages : Type 0
LineStages =
    (lowered (over_x (s.Let 2 (codes "z" ∷ codes "u" ∷ []) x ∷ s.Set 3 (codes "z") y ∷ []))
    ≡ MapSplat 2 (codes "z" ∷ codes "u" ∷ []) (Of x) ∷ Map 3 (d.Bind (codes "z") y) ∷ [])
    × (lowered (over_x (keeps ∷ s.Continue 4 ∷ s.Break 5 ∷ []))
    ≡ KeepSomething 3 (codes "z") x ∷ Filter 4 test.Never ∷ ReduceIf 5 test.Always ∷ Filter 5 test.Never ∷ [])

-- an `if`: over one `continue`; with a `break` in its `else`; with an `@keep` and no `break`; with none of the three
abbrev pub IfStages : Type 0
IfStages =
    (lowered (over_x (one_if (s.Continue 3) ∷ [])) ≡ Filter 2 (test.IfNot are_equal) ∷ [])
    × (lowered (over_x (if_else (s.Continue 3) (s.Break 5) ∷ []))
    ≡ Map 2 (d.Block (if_else (s.Continue 3) (s.Break 5))) ∷ ReduceIf 2 test.Broke ∷ Filter 2 test.Going ∷ [])
    × (lowered (over_x (one_if keeps ∷ [])) ≡ Map 2 (d.Block (one_if keeps)) ∷ Filter 2 test.Going ∷ [])
    × (lowered (over_x (one_if (s.Set 3 (codes "z") x) ∷ [])) ≡ Map 2 (d.Block (one_if (s.Set 3 (codes "z") x))) ∷ [])

-- How many tokens that are no parentheses a line has where it is written with the fewest.
-- Source: this project's language.
use Rattle.std.specs.Prelude.{ℕ, ◌+◌, Bool, true, false, List, [], ◌∷◌, map, Option, Some, None, pos, negsuc}
use Rattle.loop_data.specs.declared.value.Value.{Value}
use Rattle.loop_data.specs.declared.value.Value.TheVariants as val
use Rattle.loop_data.specs.declared.expr.Op.{Op}
use Rattle.loop_data.specs.declared.expr.Op.TheVariants as op
use Rattle.loop_data.specs.declared.expr.Expr.{Expr}
use Rattle.loop_data.specs.declared.expr.Expr.TheOpen.{Expr-F, Expr-F as e}
use Rattle.loop_data.specs.declared.expr.Expr.TheFolds.{fold-Expr}
use Rattle.loop_data.specs.declared.expr.RangeExpr.{RangeExpr}
use Rattle.loop_data.specs.declared.tower.Kind.TheVariants as kind
use Rattle.loop_data.specs.declared.tower.TowerExpr.{TowerExpr}
use Rattle.loop_data.specs.declared.tower.TowerExpr.TheVariants as tower
use Rattle.loop_data.specs.declared.tower.TowerExpr.TheOpen.{TowerExpr-F, TowerExpr-F as t}
use Rattle.loop_data.specs.declared.tower.TowerExpr.TheFolds.{fold-TowerExpr}
use Rattle.loop_data.specs.declared.head.Axis.{Axis}
use Rattle.loop_data.specs.declared.head.Axis.TheOpen.{Axis-F, Axis-F as x}
use Rattle.loop_data.specs.declared.head.Axis.TheFolds.{fold-Axis}
use Rattle.loop_data.specs.declared.head.Inner.{Inner}
use Rattle.loop_grammar.specs.declared.line.Line.{Line}
use Rattle.loop_grammar.specs.declared.line.Line.TheVariants as l

abbrev pub literal_size : Value → ℕ
literal_size (val.Int (pos n)) = 1
literal_size (val.Int (negsuc n)) = 2
literal_size (val.Bool b) = 1
literal_size (val.Text s) = 1
literal_size _ = 0

-- things behind a comma each
abbrev pub after_commas : List ℕ → ℕ
after_commas [] = 0
after_commas (n ∷ ns) = 1 + (n + after_commas ns)

-- things with commas between them
abbrev pub with_commas : List ℕ → ℕ
with_commas [] = 0
with_commas (n ∷ ns) = n + after_commas ns

-- `nothing` stands where there is no expression
abbrev pub other_size : Option ℕ → ℕ
other_size None = 1
other_size (Some n) = n

-- the smaller and the larger have a word before two parts with a comma between, other operations a token between two sides
abbrev pub two_size : Op → ℕ → ℕ → ℕ
two_size op.Min n m = 1 + with_commas (n ∷ m ∷ [])
two_size op.Max n m = 1 + with_commas (n ∷ m ∷ [])
two_size _ n m = n + (1 + m)

abbrev pub size_step : Expr-F ℕ → ℕ
size_step (e.Lit v) = literal_size v
size_step (e.Name n) = 1
size_step e.Place = 1
size_step (e.Neg n) = 1 + n
size_step (e.Not n) = 1 + n
size_step (e.Two o n m) = two_size o n m
size_step (e.Call w n) = 1 + n
size_step (e.If c n m) = 1 + (c + (1 + (n + (1 + other_size m))))
size_step (e.Tuple ns) = with_commas ns

abbrev pub expr_size : Expr → ℕ
expr_size = fold-Expr ℕ size_step

abbrev pub step_size : Option Expr → ℕ
step_size None = 0
step_size (Some p) = 1 + expr_size p

abbrev pub range_size : RangeExpr → ℕ
range_size r = expr_size r.first + (step_size r.step + (1 + expr_size r.last))

abbrev pub axis_layer : Axis-F ℕ → ℕ
axis_layer (x.Steps r) = range_size r
axis_layer (x.Col n) = 2
axis_layer (x.Zip ns) = 1 + with_commas ns

abbrev pub axis_size : Axis → ℕ
axis_size = fold-Axis ℕ axis_layer

abbrev pub name_size : List ℕ → ℕ
name_size n = 1

abbrev pub head_size : Bool → List Axis → ℕ
head_size true ps = 1 + with_commas (map axis_size ps)
head_size false ps = with_commas (map axis_size ps)

abbrev pub inner_size : List Inner → ℕ
inner_size [] = 0
inner_size (h ∷ hs) = 3 + (range_size h.range + inner_size hs)

abbrev pub tower_layer : TowerExpr-F ℕ → ℕ
tower_layer (t.Leaf d p) = 1 + expr_size p
tower_layer t.Count = 1
tower_layer (t.Grouped key n) = 1 + (expr_size key + (1 + n))
tower_layer (t.Both n m) = 1 + (n + (1 + m))

abbrev pub tower_size : TowerExpr → ℕ
tower_size = fold-TowerExpr ℕ tower_layer

abbrev pub start_size : Option Value → ℕ
start_size None = 0
start_size (Some v) = 1 + literal_size v

-- a sum without a start value is written `+= EXPR`
abbrev pub folded_size : TowerExpr → Option Value → ℕ
folded_size (tower.Leaf kind.Sum p) None = 1 + expr_size p
folded_size p start = 1 + (tower_size p + start_size start)

abbrev pub line_size : Line → ℕ
line_size l.SkipFaults = 3
line_size (l.Var n v) = 3 + literal_size v
line_size (l.Init n v) = 3 + literal_size v
line_size (l.For h) = 1 + (with_commas (map name_size h.names) + (1 + (head_size h.product h.axes + inner_size h.inner)))
line_size (l.Let ns p) = 1 + (with_commas (map name_size ns) + (1 + expr_size p))
line_size (l.Set n p) = 2 + expr_size p
line_size (l.If p) = 1 + expr_size p
line_size (l.ElseIf p) = 1 + expr_size p
line_size l.Else = 1
line_size (l.Keep n p) = 3 + expr_size p
line_size (l.Reduce n p start) = 2 + folded_size p start
line_size l.Continue = 1
line_size l.Break = 1
line_size l.End = 1
line_size (l.Print n) = 2

-- the most tokens of a line that are no parentheses
abbrev pub most_tokens : ℕ
most_tokens = 256

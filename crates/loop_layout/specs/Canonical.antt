-- The canonical text of a program: each line on its own number, two spaces for each open block, one space between tokens but
-- where the rules say none.
-- Source: this project's language.
use Rattle.std.specs.Prelude.{ℕ, suc, ◌*◌, Bool, true, false, List, [], ◌∷◌, ◌++◌, map, replicate, Option, Some, None}
use Rattle.std.specs.Prelude.{ℤ, pos, negsuc, if◌then◌else◌, codes}
use Rattle.std.specs.Fmt.{signed_decimal}
use Rattle.loop_tokens.specs.declared.token.Token.{Token}
use Rattle.loop_tokens.specs.declared.token.Token.TheVariants as tok
use Rattle.loop_tokens.specs.declared.keyword.Keyword.{Keyword}
use Rattle.loop_tokens.specs.declared.keyword.Keyword.TheVariants as kw
use Rattle.loop_tokens.specs.declared.keyword.AtWord.TheVariants as at
use Rattle.loop_tokens.specs.declared.sign.Sign.TheVariants as sg
use Rattle.loop_tokens.specs.Literals.{escaped}
use Rattle.loop_data.specs.declared.value.Value.{Value}
use Rattle.loop_data.specs.declared.value.Value.TheVariants as val
use Rattle.loop_data.specs.declared.expr.Op.{Op}
use Rattle.loop_data.specs.declared.expr.Op.TheVariants as op
use Rattle.loop_data.specs.declared.expr.Word.{Word}
use Rattle.loop_data.specs.declared.expr.Word.TheVariants as w
use Rattle.loop_data.specs.declared.expr.Expr.{Expr}
use Rattle.loop_data.specs.declared.expr.Expr.TheOpen.{Expr-F, Expr-F as e}
use Rattle.loop_data.specs.declared.expr.Expr.TheFolds.{fold-Expr}
use Rattle.loop_data.specs.declared.expr.RangeExpr.{RangeExpr}
use Rattle.loop_data.specs.declared.tower.Kind.{Kind, out-Kind}
use Rattle.loop_data.specs.declared.tower.Kind.TheOpen.{Kind-F, Kind-F as k}
use Rattle.loop_data.specs.declared.tower.Kind.TheVariants as kind
use Rattle.loop_data.specs.declared.tower.TowerExpr.{TowerExpr}
use Rattle.loop_data.specs.declared.tower.TowerExpr.TheVariants as tower
use Rattle.loop_data.specs.declared.tower.TowerExpr.TheOpen.{TowerExpr-F, TowerExpr-F as t}
use Rattle.loop_data.specs.declared.tower.TowerExpr.TheFolds.{fold-TowerExpr}
use Rattle.loop_data.specs.declared.head.Axis.{Axis}
use Rattle.loop_data.specs.declared.head.Axis.TheOpen.{Axis-F, Axis-F as x}
use Rattle.loop_data.specs.declared.head.Axis.TheFolds.{fold-Axis}
use Rattle.loop_data.specs.declared.head.Inner.{Inner}
use Rattle.loop_grammar.specs.declared.line.Line.{Line}
use Rattle.loop_grammar.specs.declared.line.Line.TheVariants as l
use Rattle.loop_layout.specs.Layout.{Mark, marks_text}

-- a token behind a space, and one directly behind what comes before it
abbrev pub apart : Token → Mark
apart t = record { apart = true; token = t }

abbrev pub glued : Token → Mark
glued t = record { apart = false; token = t }

-- what is written of something, told whether its first token stands behind a space
abbrev pub Written : Type 0
Written = Bool → List Mark

abbrev pub first : Bool → Token → Mark
first a t = record { apart = a; token = t }

abbrev pub open_ : Token
open_ = tok.Sign sg.Open

abbrev pub close : Token
close = tok.Sign sg.Close

abbrev pub comma : Token
comma = tok.Sign sg.Comma

abbrev pub colon : Token
colon = tok.Sign sg.Colon

abbrev pub minus : Token
minus = tok.Sign sg.Minus

-- a number: its digits, behind a `-` where it is negative
abbrev pub int_marks : ℤ → Written
int_marks (pos n) a = first a (tok.Number (signed_decimal (pos n))) ∷ []
int_marks (negsuc n) a = first a minus ∷ glued (tok.Number (signed_decimal (pos (suc n)))) ∷ []

abbrev pub bool_word : Bool → Keyword
bool_word true = kw.True
bool_word false = kw.False

-- a literal; no other value stands in a program
abbrev pub value_marks : Value → Written
value_marks (val.Int n) a = int_marks n a
value_marks (val.Bool b) a = first a (tok.Keyword (bool_word b)) ∷ []
value_marks (val.Text s) a = first a (tok.Text (escaped s)) ∷ []
value_marks _ a = []

-- the token between two sides
abbrev pub op_token : Op → Token
op_token op.Add = tok.Sign sg.Plus
op_token op.Sub = tok.Sign sg.Minus
op_token op.Mul = tok.Sign sg.Star
op_token op.Div = tok.Keyword kw.Div
op_token op.Rem = tok.Keyword kw.Rem
op_token op.Mod = tok.Keyword kw.Mod
op_token op.Min = tok.Keyword kw.Min
op_token op.Max = tok.Keyword kw.Max
op_token op.Join = tok.Sign sg.Join
op_token op.Eq = tok.Sign sg.Equal
op_token op.Ne = tok.Sign sg.NotEqual
op_token op.Lt = tok.Sign sg.Less
op_token op.Le = tok.Sign sg.AtMost
op_token op.Gt = tok.Sign sg.Greater
op_token op.Ge = tok.Sign sg.AtLeast
op_token op.And = tok.Keyword kw.And
op_token op.Or = tok.Keyword kw.Or

-- the smaller and the larger are written as calls
abbrev pub is_extreme : Op → Bool
is_extreme op.Min = true
is_extreme op.Max = true
is_extreme _ = false

abbrev pub word_token : Word → Token
word_token w.Abs = tok.Keyword kw.Abs
word_token w.Len = tok.Keyword kw.Len
word_token w.Int = tok.Keyword kw.Int
word_token w.TryInt = tok.Keyword kw.TryInt
word_token w.Text = tok.Keyword kw.Text

-- What is written of an expression: as a whole place, where an operation has no parentheses round it, and as a part of another
-- one. An Int literal is told apart, since unary minus before it wants parentheses.
pub record WrittenExpr : Type 0 where
  pub whole : Written
  pub part : Written
  pub is_int : Bool

-- the same as a whole and as a part
abbrev pub simple : Written → WrittenExpr
simple m = record { whole = m; part = m; is_int = false }

-- in parentheses, directly behind the opening one and before the closing one
abbrev pub in_parentheses : Written → Written
in_parentheses m a = first a open_ ∷ m false ++ glued close ∷ []

-- in parentheses but where it is a whole place
abbrev pub operation : Written → WrittenExpr
operation m = record { whole = m; part = in_parentheses m; is_int = false }

-- parts with commas between them
abbrev pub after_comma : List WrittenExpr → List Mark
after_comma [] = []
after_comma (p ∷ ps) = glued comma ∷ p.whole true ++ after_comma ps

abbrev pub parts_marks : List WrittenExpr → List Mark
parts_marks [] = []
parts_marks (p ∷ ps) = p.whole false ++ after_comma ps

-- a word with what stands in its parentheses
abbrev pub called : Token → List Mark → Written
called word inside a = first a word ∷ glued open_ ∷ inside ++ glued close ∷ []

abbrev pub literal_expr : Value → WrittenExpr
literal_expr (val.Int n) = record { whole = int_marks n; part = int_marks n; is_int = true }
literal_expr v = simple (value_marks v)

abbrev pub negated : WrittenExpr → Written
negated p = if p.is_int then in_parentheses p.whole else p.part

abbrev pub else_marks : Option WrittenExpr → List Mark
else_marks None = apart (tok.Keyword kw.Nothing) ∷ []
else_marks (Some p) = p.part true

-- one layer of an expression, given what is written of its parts
abbrev pub write_step : Expr-F WrittenExpr → WrittenExpr
write_step (e.Lit v) = literal_expr v
write_step (e.Name n) = simple (λ a. first a (tok.Name n) ∷ [])
write_step e.Place = simple (λ a. first a (tok.Keyword kw.Place) ∷ [])
write_step (e.Neg p) = simple (in_parentheses (λ a. first a minus ∷ negated p false))
write_step (e.Not p) = operation (λ a. first a (tok.Keyword kw.Not) ∷ p.part true)
write_step (e.Two o p q) = if is_extreme o then simple (called (op_token o) (parts_marks (p ∷ q ∷ [])))
    else operation (λ a. p.part a ++ apart (op_token o) ∷ q.part true)
write_step (e.Call word p) = simple (called (word_token word) (p.whole false))
write_step (e.If c p q) = operation (λ a. first a (tok.Keyword kw.If) ∷ c.part true ++
    apart (tok.Keyword kw.Then) ∷ p.part true ++ apart (tok.Keyword kw.Else) ∷ else_marks q)
write_step (e.Tuple ps) = simple (in_parentheses (λ a. parts_marks ps))

abbrev pub written_expr : Expr → WrittenExpr
written_expr = fold-Expr WrittenExpr write_step

-- an expression that is a whole place
abbrev pub expr_marks : Expr → Written
expr_marks x = (written_expr x).whole

abbrev pub step_marks : Option Expr → List Mark
step_marks None = []
step_marks (Some s) = glued colon ∷ expr_marks s false

abbrev pub range_marks : RangeExpr → Written
range_marks r a = expr_marks r.first a ++ step_marks r.step ++ glued colon ∷ expr_marks r.last false

-- things with commas between them
abbrev pub more_listed : List Written → List Mark
more_listed [] = []
more_listed (m ∷ ms) = glued comma ∷ m true ++ more_listed ms

abbrev pub listed : List Written → Written
listed [] a = []
listed (m ∷ ms) a = m a ++ more_listed ms

abbrev pub axis_step : Axis-F Written → Written
axis_step (x.Steps r) = range_marks r
axis_step (x.Col n) = called (tok.Keyword kw.Col) (glued (tok.Text (escaped n)) ∷ [])
axis_step (x.Zip ms) = called (tok.Keyword kw.Zip) (listed ms false)

abbrev pub axis_marks : Axis → Written
axis_marks = fold-Axis Written axis_step

abbrev pub name_marks : List ℕ → Written
name_marks n a = first a (tok.Name n) ∷ []

-- one name by itself, several in parentheses
abbrev pub pattern_marks : List (List ℕ) → Written
pattern_marks [] a = []
pattern_marks (n ∷ []) a = name_marks n a
pattern_marks ns a = in_parentheses (listed (map name_marks ns)) a

abbrev pub inner_marks : List Inner → List Mark
inner_marks [] = []
inner_marks (h ∷ hs) = glued comma ∷ apart (tok.Name h.name) ∷ apart (tok.Keyword kw.In) ∷ range_marks h.range true ++
    inner_marks hs

abbrev pub head_marks : List Axis → Bool → Written
head_marks axes true = called (tok.Keyword kw.Product) (listed (map axis_marks axes) false)
head_marks axes false = listed (map axis_marks axes)

-- the word of a kind of tower of one expression
abbrev pub word_at : {A : Type 0} → Kind-F A → Keyword
word_at k.Sum = kw.Sum
word_at k.Prod = kw.Prod
word_at k.Count = kw.Count
word_at k.Least = kw.Min
word_at k.Greatest = kw.Max
word_at k.LeastAt = kw.ArgMin
word_at k.GreatestAt = kw.ArgMax
word_at k.First = kw.First
word_at k.Last = kw.Last
word_at k.Any = kw.Any
word_at k.All = kw.All
word_at k.Listed = kw.List
word_at (k.Grouped a) = kw.Group
word_at (k.Both a b) = kw.Both

abbrev pub kind_word : Kind → Keyword
kind_word d = word_at (out-Kind d)

abbrev pub tower_step : TowerExpr-F Written → Written
tower_step (t.Leaf d p) = called (tok.Keyword (kind_word d)) (expr_marks p false)
tower_step t.Count = called (tok.Keyword kw.Count) []
tower_step (t.Grouped key m) = called (tok.Keyword kw.Group) (expr_marks key false ++ glued comma ∷ m true)
tower_step (t.Both m n) = called (tok.Keyword kw.Both) (m false ++ glued comma ∷ n true)

abbrev pub tower_marks : TowerExpr → Written
tower_marks = fold-TowerExpr Written tower_step

abbrev pub start_marks : Option Value → List Mark
start_marks None = []
start_marks (Some v) = apart (tok.Keyword kw.From) ∷ value_marks v true

-- `+=` with what is summed
abbrev pub added_marks : Expr → List Mark
added_marks p = apart (tok.Sign sg.PlusAssign) ∷ expr_marks p true

-- `=` with the tower and its start value
abbrev pub assigned_marks : TowerExpr → Option Value → List Mark
assigned_marks p start = apart (tok.Sign sg.Assign) ∷ tower_marks p true ++ start_marks start

-- what follows the name: a `sum` at the top without a start value is written with `+=`
abbrev pub folded_marks : TowerExpr → Option Value → List Mark
folded_marks (tower.Leaf kind.Sum p) None = added_marks p
folded_marks p start = assigned_marks p start

-- what is written of a line
abbrev pub line_marks : Line → List Mark
line_marks l.SkipFaults = glued (tok.Name (codes "on")) ∷ apart (tok.Name (codes "fault")) ∷ apart (tok.Name (codes "skip")) ∷ []
line_marks (l.Var n v) = glued (tok.Keyword kw.Var) ∷ apart (tok.Name n) ∷ apart (tok.Sign sg.Assign) ∷ value_marks v true
line_marks (l.Init n v) = glued (tok.At at.Init) ∷ apart (tok.Name n) ∷ apart (tok.Sign sg.Assign) ∷ value_marks v true
line_marks (l.For h) = glued (tok.Keyword kw.For) ∷ pattern_marks h.names true ++
    apart (tok.Keyword kw.In) ∷ head_marks h.axes h.product true ++ inner_marks h.inner
line_marks (l.Let ns p) = glued (tok.Keyword kw.Let) ∷ pattern_marks ns true ++ apart (tok.Sign sg.Assign) ∷ expr_marks p true
line_marks (l.Set n p) = glued (tok.Name n) ∷ apart (tok.Sign sg.Assign) ∷ expr_marks p true
line_marks (l.If p) = glued (tok.Keyword kw.If) ∷ expr_marks p true
line_marks (l.ElseIf p) = glued (tok.Keyword kw.ElseIf) ∷ expr_marks p true
line_marks l.Else = glued (tok.Keyword kw.Else) ∷ []
line_marks (l.Keep n p) = glued (tok.At at.Keep) ∷ apart (tok.Name n) ∷ apart (tok.Sign sg.Assign) ∷ expr_marks p true
line_marks (l.Reduce n p start) = glued (tok.At at.Reduce) ∷ apart (tok.Name n) ∷ folded_marks p start
line_marks l.Continue = glued (tok.Keyword kw.Continue) ∷ []
line_marks l.Break = glued (tok.Keyword kw.Break) ∷ []
line_marks l.End = glued (tok.Keyword kw.End) ∷ []
line_marks (l.Print n) = glued (tok.Keyword kw.Print) ∷ apart (tok.Name n) ∷ []

-- a line inside so many open blocks
abbrev pub line_text : ℕ → Line → List ℕ
line_text depth form = replicate (2 * depth) 32 ++ marks_text (line_marks form)

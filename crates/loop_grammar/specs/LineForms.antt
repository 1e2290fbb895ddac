-- Which tokens spell which line. Numbers may be of any size: a flag beside what is spelled says whether some number is too wide.
-- Source: this project's language.
use Rattle.std.specs.Prelude.{◌≡◌, ℕ, ◌+◌, ◌≤◌, max, Bool, true, false, ◌||◌, List, [], ◌∷◌, length, Option, Some, None, codes}
use Rattle.loop_tokens.specs.declared.token.Token.{Token}
use Rattle.loop_tokens.specs.declared.token.Token.TheVariants as tok
use Rattle.loop_tokens.specs.declared.keyword.Keyword.{Keyword}
use Rattle.loop_tokens.specs.declared.keyword.Keyword.TheVariants as kw
use Rattle.loop_tokens.specs.declared.keyword.AtWord.TheVariants as at
use Rattle.loop_tokens.specs.declared.sign.Sign.TheVariants as sg
use Rattle.loop_tokens.specs.Literals.{number_of, text_of}
use Rattle.loop_data.specs.declared.value.Value.{Value}
use Rattle.loop_data.specs.declared.value.Value.TheVariants as val
use Rattle.loop_data.specs.declared.expr.Expr.{Expr}
use Rattle.loop_data.specs.declared.expr.RangeExpr.{RangeExpr}
use Rattle.loop_data.specs.declared.tower.Kind.{Kind}
use Rattle.loop_data.specs.declared.tower.Kind.TheVariants as kind
use Rattle.loop_data.specs.declared.tower.TowerExpr.{TowerExpr}
use Rattle.loop_data.specs.declared.tower.TowerExpr.TheVariants as tower
use Rattle.loop_data.specs.declared.tower.TowerExpr.TheOpen.{TowerExpr-F, TowerExpr-F as t}
use Rattle.loop_data.specs.declared.tower.TowerExpr.TheFolds.{fold-TowerExpr}
use Rattle.loop_data.specs.declared.head.Axis.{Axis}
use Rattle.loop_data.specs.declared.head.Axis.TheVariants as axis
use Rattle.loop_data.specs.declared.head.Inner.{Inner}
use Rattle.loop_exprs.specs.declared.level.Level.TheVariants as level
use Rattle.loop_exprs.specs.Operations.{is_wide, positive_value, is_wide_negative, negative_value}
use Rattle.loop_exprs.specs.Grammar.{Spells}
use Rattle.loop_grammar.specs.declared.line.Line.{Line}
use Rattle.loop_grammar.specs.declared.line.Line.TheVariants as l

-- SpellsLiteral v wide from rest: from the front of `from` up to `rest` the tokens spell the literal v.
pub data SpellsLiteral : Value → Bool → List Token → List Token → Type 0 where
  number : {n : List ℕ} {rest : List Token} →
      SpellsLiteral (val.Int (positive_value (number_of n))) (is_wide (number_of n)) (tok.Number n ∷ rest) rest
  negative : {n : List ℕ} {rest : List Token} →
      SpellsLiteral (val.Int (negative_value (number_of n))) (is_wide_negative (number_of n))
      (tok.Sign sg.Minus ∷ tok.Number n ∷ rest) rest
  text : {raw : List ℕ} {rest : List Token} → SpellsLiteral (val.Text (text_of raw)) false (tok.Text raw ∷ rest) rest
  yes : {rest : List Token} → SpellsLiteral (val.Bool true) false (tok.Keyword kw.True ∷ rest) rest
  no : {rest : List Token} → SpellsLiteral (val.Bool false) false (tok.Keyword kw.False ∷ rest) rest

-- names with commas between them
pub data SpellsNames : List (List ℕ) → List Token → List Token → Type 0 where
  last : {n : List ℕ} {rest : List Token} → SpellsNames (n ∷ []) (tok.Name n ∷ rest) rest
  more : {n : List ℕ} {ns : List (List ℕ)} {ts rest : List Token} →
      SpellsNames ns ts rest → SpellsNames (n ∷ ns) (tok.Name n ∷ tok.Sign sg.Comma ∷ ts) rest

-- one name, or two to four between parentheses
pub data SpellsPattern : List (List ℕ) → List Token → List Token → Type 0 where
  one : {n : List ℕ} {rest : List Token} → SpellsPattern (n ∷ []) (tok.Name n ∷ rest) rest
  several : {ns : List (List ℕ)} {ts rest : List Token} → 2 ≤ length ns → length ns ≤ 4 →
      SpellsNames ns ts (tok.Sign sg.Close ∷ rest) → SpellsPattern ns (tok.Sign sg.Open ∷ ts) rest

-- `first:last` or `first:step:last`
pub data SpellsRange : RangeExpr → Bool → List Token → List Token → Type 0 where
  by_one : {a b : Expr} {u v : Bool} {ts us rest : List Token} →
      Spells level.Expr a u ts (tok.Sign sg.Colon ∷ us) → Spells level.Expr b v us rest →
      SpellsRange (record { first = a; step = None; last = b }) (u || v) ts rest
  by_step : {a s b : Expr} {u v w : Bool} {ts us vs rest : List Token} → Spells level.Expr a u ts (tok.Sign sg.Colon ∷ us) →
      Spells level.Expr s v us (tok.Sign sg.Colon ∷ vs) → Spells level.Expr b w vs rest →
      SpellsRange (record { first = a; step = Some s; last = b }) (u || v || w) ts rest

-- a range, or `col` with the name of a column
pub data SpellsAxis : Axis → Bool → List Token → List Token → Type 0 where
  steps : {r : RangeExpr} {u : Bool} {ts rest : List Token} → SpellsRange r u ts rest → SpellsAxis (axis.Steps r) u ts rest
  column : {raw : List ℕ} {rest : List Token} →
      SpellsAxis (axis.Col (text_of raw)) false
      (tok.Keyword kw.Col ∷ tok.Sign sg.Open ∷ tok.Text raw ∷ tok.Sign sg.Close ∷ rest) rest

-- axes with commas between them
pub data SpellsAxes : List Axis → Bool → List Token → List Token → Type 0 where
  last : {x : Axis} {u : Bool} {ts rest : List Token} → SpellsAxis x u ts rest → SpellsAxes (x ∷ []) u ts rest
  more : {x : Axis} {xs : List Axis} {u v : Bool} {ts us rest : List Token} →
      SpellsAxis x u ts (tok.Sign sg.Comma ∷ us) → SpellsAxes xs v us rest → SpellsAxes (x ∷ xs) (u || v) ts rest

-- an axis, or a zip of two to four axes
pub data SpellsFactor : Axis → Bool → List Token → List Token → Type 0 where
  plain : {x : Axis} {u : Bool} {ts rest : List Token} → SpellsAxis x u ts rest → SpellsFactor x u ts rest
  zip : {xs : List Axis} {u : Bool} {ts rest : List Token} →
      2 ≤ length xs → length xs ≤ 4 → SpellsAxes xs u ts (tok.Sign sg.Close ∷ rest) →
      SpellsFactor (axis.Zip xs) u (tok.Keyword kw.Zip ∷ tok.Sign sg.Open ∷ ts) rest

-- axes and zips with commas between them
pub data SpellsFactors : List Axis → Bool → List Token → List Token → Type 0 where
  last : {x : Axis} {u : Bool} {ts rest : List Token} → SpellsFactor x u ts rest → SpellsFactors (x ∷ []) u ts rest
  more : {x : Axis} {xs : List Axis} {u v : Bool} {ts us rest : List Token} →
      SpellsFactor x u ts (tok.Sign sg.Comma ∷ us) → SpellsFactors xs v us rest → SpellsFactors (x ∷ xs) (u || v) ts rest

-- SpellsHead axes product wide from rest: the first head, an axis, a zip, or a product of two to four of these
pub data SpellsHead : List Axis → Bool → Bool → List Token → List Token → Type 0 where
  alone : {x : Axis} {u : Bool} {ts rest : List Token} → SpellsFactor x u ts rest → SpellsHead (x ∷ []) false u ts rest
  product : {xs : List Axis} {u : Bool} {ts rest : List Token} →
      2 ≤ length xs → length xs ≤ 4 → SpellsFactors xs u ts (tok.Sign sg.Close ∷ rest) →
      SpellsHead xs true u (tok.Keyword kw.Product ∷ tok.Sign sg.Open ∷ ts) rest

-- the further heads, each behind a comma, up to the end of the line
pub data SpellsInner : List Inner → Bool → List Token → Type 0 where
  none : SpellsInner [] false []
  more : {n : List ℕ} {r : RangeExpr} {hs : List Inner} {u v : Bool} {ts us : List Token} →
      SpellsRange r u ts us → SpellsInner hs v us →
      SpellsInner (record { name = n; range = r } ∷ hs) (u || v) (tok.Sign sg.Comma ∷ tok.Name n ∷ tok.Keyword kw.In ∷ ts)

-- the kind of tower of one expression that a word is
abbrev pub leaf_kind : Keyword → Option Kind
leaf_kind kw.Sum = Some kind.Sum
leaf_kind kw.Prod = Some kind.Prod
leaf_kind kw.Min = Some kind.Least
leaf_kind kw.Max = Some kind.Greatest
leaf_kind kw.ArgMin = Some kind.LeastAt
leaf_kind kw.ArgMax = Some kind.GreatestAt
leaf_kind kw.First = Some kind.First
leaf_kind kw.Last = Some kind.Last
leaf_kind kw.Any = Some kind.Any
leaf_kind kw.All = Some kind.All
leaf_kind kw.List = Some kind.Listed
leaf_kind _ = None

pub data SpellsTower : TowerExpr → Bool → List Token → List Token → Type 0 where
  leaf : {k : Keyword} {d : Kind} {x : Expr} {u : Bool} {ts rest : List Token} →
      leaf_kind k ≡ Some d → Spells level.Expr x u ts (tok.Sign sg.Close ∷ rest) →
      SpellsTower (tower.Leaf d x) u (tok.Keyword k ∷ tok.Sign sg.Open ∷ ts) rest
  count : {rest : List Token} →
      SpellsTower tower.Count false (tok.Keyword kw.Count ∷ tok.Sign sg.Open ∷ tok.Sign sg.Close ∷ rest) rest
  grouped : {key : Expr} {x : TowerExpr} {u v : Bool} {ts us rest : List Token} →
      Spells level.Expr key u ts (tok.Sign sg.Comma ∷ us) → SpellsTower x v us (tok.Sign sg.Close ∷ rest) →
      SpellsTower (tower.Grouped key x) (u || v) (tok.Keyword kw.Group ∷ tok.Sign sg.Open ∷ ts) rest
  both : {x y : TowerExpr} {u v : Bool} {ts us rest : List Token} →
      SpellsTower x u ts (tok.Sign sg.Comma ∷ us) → SpellsTower y v us (tok.Sign sg.Close ∷ rest) →
      SpellsTower (tower.Both x y) (u || v) (tok.Keyword kw.Both ∷ tok.Sign sg.Open ∷ ts) rest

-- SpellsLine line wide tokens: the tokens, all of them together, spell the line.
pub data SpellsLine : Line → Bool → List Token → Type 0 where
  -- three names, which are no reserved words
  skip_faults : {on fault skip : List ℕ} → on ≡ codes "on" → fault ≡ codes "fault" → skip ≡ codes "skip" →
      SpellsLine l.SkipFaults false (tok.Name on ∷ tok.Name fault ∷ tok.Name skip ∷ [])
  var : {n : List ℕ} {v : Value} {u : Bool} {ts : List Token} → SpellsLiteral v u ts [] →
      SpellsLine (l.Var n v) u (tok.Keyword kw.Var ∷ tok.Name n ∷ tok.Sign sg.Assign ∷ ts)
  init : {n : List ℕ} {v : Value} {u : Bool} {ts : List Token} → SpellsLiteral v u ts [] →
      SpellsLine (l.Init n v) u (tok.At at.Init ∷ tok.Name n ∷ tok.Sign sg.Assign ∷ ts)
  for_ : {ns : List (List ℕ)} {xs : List Axis} {product u v : Bool} {hs : List Inner} {ts us vs : List Token} → length hs ≤ 3 →
      SpellsPattern ns ts (tok.Keyword kw.In ∷ us) → SpellsHead xs product u us vs → SpellsInner hs v vs →
      SpellsLine (l.For (record { names = ns; axes = xs; product = product; inner = hs })) (u || v) (tok.Keyword kw.For ∷ ts)
  let_ : {ns : List (List ℕ)} {x : Expr} {u : Bool} {ts us : List Token} →
      SpellsPattern ns ts (tok.Sign sg.Assign ∷ us) → Spells level.Expr x u us [] →
      SpellsLine (l.Let ns x) u (tok.Keyword kw.Let ∷ ts)
  set : {n : List ℕ} {x : Expr} {u : Bool} {ts : List Token} → Spells level.Expr x u ts [] →
      SpellsLine (l.Set n x) u (tok.Name n ∷ tok.Sign sg.Assign ∷ ts)
  if_ : {x : Expr} {u : Bool} {ts : List Token} → Spells level.Expr x u ts [] → SpellsLine (l.If x) u (tok.Keyword kw.If ∷ ts)
  elseif : {x : Expr} {u : Bool} {ts : List Token} →
      Spells level.Expr x u ts [] → SpellsLine (l.ElseIf x) u (tok.Keyword kw.ElseIf ∷ ts)
  else_ : SpellsLine l.Else false (tok.Keyword kw.Else ∷ [])
  keep : {n : List ℕ} {x : Expr} {u : Bool} {ts : List Token} → Spells level.Expr x u ts [] →
      SpellsLine (l.Keep n x) u (tok.At at.Keep ∷ tok.Name n ∷ tok.Sign sg.Assign ∷ ts)
  -- `+= EXPR` is the tower `sum(EXPR)`
  add : {n : List ℕ} {x : Expr} {u : Bool} {ts : List Token} → Spells level.Expr x u ts [] →
      SpellsLine (l.Reduce n (tower.Leaf kind.Sum x) None) u (tok.At at.Reduce ∷ tok.Name n ∷ tok.Sign sg.PlusAssign ∷ ts)
  reduce : {n : List ℕ} {x : TowerExpr} {u : Bool} {ts : List Token} → SpellsTower x u ts [] →
      SpellsLine (l.Reduce n x None) u (tok.At at.Reduce ∷ tok.Name n ∷ tok.Sign sg.Assign ∷ ts)
  reduce_from : {n : List ℕ} {x : TowerExpr} {v : Value} {u w : Bool} {ts us : List Token} →
      SpellsTower x u ts (tok.Keyword kw.From ∷ us) → SpellsLiteral v w us [] →
      SpellsLine (l.Reduce n x (Some v)) (u || w) (tok.At at.Reduce ∷ tok.Name n ∷ tok.Sign sg.Assign ∷ ts)
  continue : SpellsLine l.Continue false (tok.Keyword kw.Continue ∷ [])
  break : SpellsLine l.Break false (tok.Keyword kw.Break ∷ [])
  end : SpellsLine l.End false (tok.Keyword kw.End ∷ [])
  print : {n : List ℕ} → SpellsLine (l.Print n) false (tok.Keyword kw.Print ∷ tok.Name n ∷ [])

-- how many groups are nested in a tower, along one way down
abbrev pub groups_step : TowerExpr-F ℕ → ℕ
groups_step (t.Leaf d x) = 0
groups_step t.Count = 0
groups_step (t.Grouped key n) = n + 1
groups_step (t.Both n m) = max n m

abbrev pub groups_in : TowerExpr → ℕ
groups_in = fold-TowerExpr ℕ groups_step

-- how many groups are nested in a line's tower
abbrev pub line_groups : Line → ℕ
line_groups (l.Reduce n x start) = groups_in x
line_groups _ = 0

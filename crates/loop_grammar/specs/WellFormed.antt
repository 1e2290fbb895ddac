-- What every program is, as one computed test on trees: its names, literals and numbers of parts, the order of its lines, and
-- the limits.
-- Source: this project's language.
use Rattle.std.specs.Prelude.{ℕ, zero, suc, ◌==◌, nat_lt, nat_le, Bool, true, false, not, ◌&&◌, List, [], ◌∷◌, length, map}
use Rattle.std.specs.Prelude.{Option, Some, None, is_some, ℤ, pos, negsuc, ◌^◌}
use Rattle.std.specs.List.{list_all}
use Rattle.std.specs.Str.{is_utf8}
use Rattle.loop_tokens.specs.Bytes.{is_letter, is_word_byte}
use Rattle.loop_tokens.specs.Keywords.{keyword_of}
use Rattle.loop_data.specs.declared.value.Value.{Value}
use Rattle.loop_data.specs.declared.value.Value.TheVariants as val
use Rattle.loop_data.specs.declared.expr.Expr.{Expr}
use Rattle.loop_data.specs.declared.expr.Expr.TheOpen.{Expr-F, Expr-F as e}
use Rattle.loop_data.specs.declared.expr.Expr.TheFolds.{fold-Expr}
use Rattle.loop_data.specs.declared.expr.RangeExpr.{RangeExpr}
use Rattle.loop_data.specs.declared.tower.Kind.{Kind, out-Kind}
use Rattle.loop_data.specs.declared.tower.Kind.TheOpen.{Kind-F, Kind-F as k}
use Rattle.loop_data.specs.declared.tower.TowerExpr.{TowerExpr}
use Rattle.loop_data.specs.declared.tower.TowerExpr.TheOpen.{TowerExpr-F, TowerExpr-F as t}
use Rattle.loop_data.specs.declared.tower.TowerExpr.TheFolds.{fold-TowerExpr}
use Rattle.loop_data.specs.declared.head.Axis.{Axis, out-Axis}
use Rattle.loop_data.specs.declared.head.Axis.TheOpen.{Axis-F, Axis-F as x}
use Rattle.loop_data.specs.declared.head.Inner.{Inner}
use Rattle.loop_data.specs.declared.statement.Statement.{Statement}
use Rattle.loop_data.specs.declared.statement.Branch.{Branch}
use Rattle.loop_data.specs.declared.statement.Statement.TheOpen.{Statement-F, Statement-F as s, Branch-F}
use Rattle.loop_data.specs.declared.statement.Statement.TheFolds.{fold-Statement, fold-Branch}
use Rattle.loop_grammar.specs.declared.line.Line.{Line}
use Rattle.loop_grammar.specs.declared.line.Line.TheVariants as l
use Rattle.loop_grammar.specs.declared.line.Heads.{Heads}
use Rattle.loop_grammar.specs.declared.line.NumberedLine.{NumberedLine}
use Rattle.loop_grammar.specs.declared.tree.ProgramTree.{ProgramTree}
use Rattle.loop_grammar.specs.LineForms.{line_groups}
use Rattle.loop_grammar.specs.Texts.{most_groups}
use Rattle.loop_grammar.specs.LineSizes.{line_size, most_tokens}
use Rattle.loop_grammar.specs.TreeLines.{tree_lines}

-- ---- names and literals

-- a letter or `_`, then letters, digits and `_`, and no reserved word: so neither `place` nor `@item`
abbrev pub is_name : List ℕ → Bool
is_name [] = false
is_name (b ∷ bs) = is_letter b && (list_all is_word_byte bs && not (is_some (keyword_of (b ∷ bs))))

-- a number of 64 bits
abbrev pub is_narrow : ℤ → Bool
is_narrow (pos n) = nat_lt n (2 ^ 63)
is_narrow (negsuc n) = nat_lt n (2 ^ 63)

-- a number, a truth, or a text that is UTF-8
abbrev pub is_literal : Value → Bool
is_literal (val.Int n) = is_narrow n
is_literal (val.Bool b) = true
is_literal (val.Text s) = is_utf8 s
is_literal _ = false

abbrev pub is_start : Option Value → Bool
is_start None = true
is_start (Some v) = is_literal v

-- two to four
abbrev pub are_several : {A : Type 0} → List A → Bool
are_several xs = nat_le 2 (length xs) && nat_le (length xs) 4

abbrev pub all_hold : List Bool → Bool
all_hold [] = true
all_hold (b ∷ bs) = b && all_hold bs

-- ---- expressions and towers

abbrev pub other_holds : Option Bool → Bool
other_holds None = true
other_holds (Some b) = b

-- one layer of an expression, given whether its parts are well formed
abbrev pub expr_test : Expr-F Bool → Bool
expr_test (e.Lit v) = is_literal v
expr_test (e.Name n) = is_name n
expr_test e.Place = true
expr_test (e.Neg a) = a
expr_test (e.Not a) = a
expr_test (e.Two o a b) = a && b
expr_test (e.Call w a) = a
expr_test (e.If c a b) = c && (a && other_holds b)
expr_test (e.Tuple bs) = are_several bs && all_hold bs

-- names are names, literals are literals, and a tuple has two to four parts
abbrev pub is_expr : Expr → Bool
is_expr = fold-Expr Bool expr_test

abbrev pub is_step : Option Expr → Bool
is_step None = true
is_step (Some p) = is_expr p

abbrev pub is_range : RangeExpr → Bool
is_range r = is_expr r.first && (is_step r.step && is_expr r.last)

-- the kinds of a tower of one expression
abbrev pub leaf_at : {A : Type 0} → Kind-F A → Bool
leaf_at k.Count = false
leaf_at (k.Grouped a) = false
leaf_at (k.Both a b) = false
leaf_at _ = true

abbrev pub is_leaf : Kind → Bool
is_leaf d = leaf_at (out-Kind d)

abbrev pub tower_test : TowerExpr-F Bool → Bool
tower_test (t.Leaf d p) = is_leaf d && is_expr p
tower_test t.Count = true
tower_test (t.Grouped key b) = is_expr key && b
tower_test (t.Both a b) = a && b

abbrev pub is_tower : TowerExpr → Bool
is_tower = fold-TowerExpr Bool tower_test

-- ---- heads

-- one to four names
abbrev pub is_pattern : List (List ℕ) → Bool
is_pattern ns = nat_le 1 (length ns) && (nat_le (length ns) 4 && list_all is_name ns)

abbrev pub plain_at : {A : Type 0} → Axis-F A → Bool
plain_at (x.Steps r) = is_range r
plain_at (x.Col n) = is_utf8 n
plain_at (x.Zip ps) = false

-- a range or a column
abbrev pub is_plain : Axis → Bool
is_plain p = plain_at (out-Axis p)

abbrev pub factor_at : Axis-F Axis → Bool
factor_at (x.Zip ps) = are_several ps && list_all is_plain ps
factor_at p = plain_at p

-- a range, a column, or a zip of two to four of these
abbrev pub is_factor : Axis → Bool
is_factor p = factor_at (out-Axis p)

-- a head that is no product has one axis, a product two to four
abbrev pub is_head : Bool → List Axis → Bool
is_head true ps = are_several ps && list_all is_factor ps
is_head false (p ∷ []) = is_factor p
is_head false _ = false

abbrev pub is_inner : Inner → Bool
is_inner h = is_name h.name && is_range h.range

-- at most three inner heads
abbrev pub are_heads : Heads → Bool
are_heads h = is_pattern h.names && (is_head h.product h.axes && (nat_le (length h.inner) 3 && list_all is_inner h.inner))

-- ---- lines

-- the parts of a line are what they may be
abbrev pub is_form : Line → Bool
is_form (l.Var n v) = is_name n && is_literal v
is_form (l.Init n v) = is_name n && is_literal v
is_form (l.For h) = are_heads h
is_form (l.Let ns p) = is_pattern ns && is_expr p
is_form (l.Set n p) = is_name n && is_expr p
is_form (l.If p) = is_expr p
is_form (l.ElseIf p) = is_expr p
is_form (l.Keep n p) = is_name n && is_expr p
is_form (l.Reduce n p start) = is_name n && (is_tower p && is_start start)
is_form (l.Print n) = is_name n
is_form _ = true

-- and it is within the limits of a line
abbrev pub is_within : Line → Bool
is_within form = is_form form && (nat_le (line_groups form) most_groups && nat_le (line_size form) most_tokens)

-- the lines stand one below another, the first below line n, and each is within the limits
abbrev pub are_lines : ℕ → List NumberedLine → Bool
are_lines n [] = true
are_lines n (p ∷ ps) = nat_lt n p.line && (is_within p.form && are_lines p.line ps)

-- ---- how a tree's parts stand in one another

-- told how many blocks may still be open within one another
abbrev pub Fits : Type 0
Fits = ℕ → Bool

abbrev pub all_fit : List Fits → Fits
all_fit [] room = true
all_fit (f ∷ fs) room = f room && all_fit fs room

-- a condition's line, and whether its block fits
pub record BranchFits : Type 0 where
  pub line : ℕ
  pub block : Fits

abbrev pub branches_fit : List BranchFits → Fits
branches_fit [] room = true
branches_fit (b ∷ bs) room = b.block room && branches_fit bs room

-- an `if` has a branch, and its line is its first branch's
abbrev pub starts_at : ℕ → List BranchFits → Bool
starts_at n [] = false
starts_at n (b ∷ bs) = n == b.line

-- where there is no `else` it has no block
abbrev pub other_fits : ℕ → List Fits → Fits
other_fits zero [] room = true
other_fits zero (f ∷ fs) room = false
other_fits (suc n) fs room = all_fit fs room

abbrev pub if_fits : ℕ → List BranchFits → ℕ → List Fits → Fits
if_fits n branches else_line other zero = false
if_fits n branches else_line other (suc room) =
    starts_at n branches && (branches_fit branches room && other_fits else_line other room)

abbrev pub fits_layer : Statement-F Fits BranchFits → Fits
fits_layer (s.If n branches else_line other m) room = if_fits n branches else_line other room
fits_layer _ room = true

abbrev pub branch_fits_layer : Branch-F Fits BranchFits → BranchFits
branch_fits_layer b = record { line = b.line; block = all_fit b.block }

abbrev pub statement_fits : Statement → Fits
statement_fits = fold-Statement Fits BranchFits fits_layer branch_fits_layer

abbrev pub branch_fits : Branch → BranchFits
branch_fits = fold-Branch Fits BranchFits fits_layer branch_fits_layer

-- the most blocks that may be open within the loop's
abbrev pub most_inside : ℕ
most_inside = 15

-- Every program passes this test, and each tree that passes it is a program, spelled by its canonical text.
abbrev pub is_well_formed : ProgramTree → Bool
is_well_formed p = are_lines 0 (tree_lines p) && all_fit (map statement_fits p.body) most_inside

-- Which tokens stand for which operations of an expression, and how tightly these hold together.
-- Source: this project's language.
use Rattle.std.specs.Prelude.{ℕ, Bool, true, false, Option, Some, None, nat_lt, nat_le, ◌^◌, pos, if◌then◌else◌}
use Rattle.std.proofs.Common.{neg_ℤ}
use lib.IntN.{ℤ}
use Rattle.loop_tokens.specs.declared.token.Token.{Token}
use Rattle.loop_tokens.specs.declared.token.Token.TheVariants as tok
use Rattle.loop_tokens.specs.declared.keyword.Keyword.{Keyword}
use Rattle.loop_tokens.specs.declared.keyword.Keyword.TheVariants as kw
use Rattle.loop_tokens.specs.declared.sign.Sign.{Sign}
use Rattle.loop_tokens.specs.declared.sign.Sign.TheVariants as sg
use Rattle.loop_data.specs.declared.expr.Op.{Op}
use Rattle.loop_data.specs.declared.expr.Op.TheVariants as op
use Rattle.loop_data.specs.declared.expr.Word.{Word}
use Rattle.loop_data.specs.declared.expr.Word.TheVariants as w
use Rattle.loop_data.specs.declared.expr.Expr.{Expr}
use Rattle.loop_data.specs.declared.expr.Expr.TheVariants as e
use Rattle.loop_data.specs.declared.value.Value.TheVariants as val
use Rattle.loop_exprs.specs.declared.level.Level.{Level}
use Rattle.loop_exprs.specs.declared.level.Level.TheVariants as level

-- the next level that holds together more tightly
abbrev pub tighter : Level → Level
tighter level.Expr = level.Or
tighter level.Or = level.And
tighter level.And = level.Not
tighter level.Not = level.Compare
tighter level.Compare = level.Join
tighter level.Join = level.Add
tighter level.Add = level.Multiply
tighter level.Multiply = level.Negate
tighter level.Negate = level.Atom
tighter level.Atom = level.Atom

-- the levels at which repeated operations group to the left
abbrev pub groups_left : Level → Bool
groups_left level.Or = true
groups_left level.And = true
groups_left level.Join = true
groups_left level.Add = true
groups_left level.Multiply = true
groups_left _ = false

abbrev pub sign_operation : Sign → Option Op
sign_operation sg.Equal = Some op.Eq
sign_operation sg.NotEqual = Some op.Ne
sign_operation sg.Less = Some op.Lt
sign_operation sg.AtMost = Some op.Le
sign_operation sg.Greater = Some op.Gt
sign_operation sg.AtLeast = Some op.Ge
sign_operation sg.Join = Some op.Join
sign_operation sg.Plus = Some op.Add
sign_operation sg.Minus = Some op.Sub
sign_operation sg.Star = Some op.Mul
sign_operation _ = None

abbrev pub keyword_operation : Keyword → Option Op
keyword_operation kw.Or = Some op.Or
keyword_operation kw.And = Some op.And
keyword_operation kw.Div = Some op.Div
keyword_operation kw.Rem = Some op.Rem
keyword_operation kw.Mod = Some op.Mod
keyword_operation _ = None

-- the operation of two sides that a token between them stands for
abbrev pub operation_of : Token → Option Op
operation_of (tok.Sign s) = sign_operation s
operation_of (tok.Keyword k) = keyword_operation k
operation_of _ = None

-- the level of an operation; the smaller and the larger stand between no two sides, so that none is asked for
abbrev pub level_of : Op → Level
level_of op.Or = level.Or
level_of op.And = level.And
level_of op.Eq = level.Compare
level_of op.Ne = level.Compare
level_of op.Lt = level.Compare
level_of op.Le = level.Compare
level_of op.Gt = level.Compare
level_of op.Ge = level.Compare
level_of op.Join = level.Join
level_of op.Add = level.Add
level_of op.Sub = level.Add
level_of op.Mul = level.Multiply
level_of op.Div = level.Multiply
level_of op.Rem = level.Multiply
level_of op.Mod = level.Multiply
level_of op.Min = level.Expr
level_of op.Max = level.Expr

-- the word that is called with one part
abbrev pub word_of : Keyword → Option Word
word_of kw.Abs = Some w.Abs
word_of kw.Len = Some w.Len
word_of kw.Int = Some w.Int
word_of kw.TryInt = Some w.TryInt
word_of kw.Text = Some w.Text
word_of _ = None

-- the operation that is called with two parts
abbrev pub extreme_of : Keyword → Option Op
extreme_of kw.Min = Some op.Min
extreme_of kw.Max = Some op.Max
extreme_of _ = None

-- the expression that a word is by itself
abbrev pub constant_of : Keyword → Option Expr
constant_of kw.True = Some (e.Lit (val.Bool true))
constant_of kw.False = Some (e.Lit (val.Bool false))
constant_of kw.Place = Some e.Place
constant_of _ = None

-- A number without `-` is at most 9223372036854775807, one that is part of a negative literal at most 9223372036854775808.
-- One that is too wide has 0 in its place, in a tree that stands for no program.
abbrev pub is_wide : ℕ → Bool
is_wide n = nat_le (2 ^ 63) n

abbrev pub positive_value : ℕ → ℤ
positive_value n = if nat_le (2 ^ 63) n then pos 0 else pos n

abbrev pub is_wide_negative : ℕ → Bool
is_wide_negative n = nat_lt (2 ^ 63) n

abbrev pub negative_value : ℕ → ℤ
negative_value n = if nat_lt (2 ^ 63) n then pos 0 else neg_ℤ (pos n)

-- The kind of an expression under the kinds of its names, or that it has none. Source: this project.
-- A kind is Int, Bool, Text, Tuple of 2 to 4 kinds, or Maybe of a kind; Maybe stands only on the outside.
use Rattle.std.specs.Prelude.{◌≡◌, ℕ, Bool, true, false, ◌&&◌, ◌||◌, if◌then◌else◌, nat_le, List, [], ◌∷◌, ◌++◌, length, Option}
use Rattle.std.specs.Prelude.{Some, None, Result, Ok, Err}
use Rattle.std.specs.List.{list_all}
use Rattle.loop_data.specs.declared.value.Value.{Value}
use Rattle.loop_data.specs.declared.value.Value.TheVariants as value
use Rattle.loop_data.specs.declared.value.ValueKind.{ValueKind, out-ValueKind}
use Rattle.loop_data.specs.declared.value.ValueKind.TheVariants.{Int, Bool as Truth, Text, Tuple, Maybe}
use Rattle.loop_data.specs.declared.value.ValueKind.TheOpen.{ValueKind-F, ValueKind-F as k}
use Rattle.loop_data.specs.declared.value.ValueKind.TheFolds.{fold-ValueKind}
use Rattle.loop_data.specs.declared.expr.Op.{Op}
use Rattle.loop_data.specs.declared.expr.Op.TheVariants as op
use Rattle.loop_data.specs.declared.expr.Word.{Word}
use Rattle.loop_data.specs.declared.expr.Word.TheVariants as word
use Rattle.loop_data.specs.declared.expr.Expr.{Expr}
use Rattle.loop_data.specs.declared.expr.Expr.TheOpen.{Expr-F, Expr-F as e}
use Rattle.loop_data.specs.declared.expr.Expr.TheFolds.{fold-Expr}
use Rattle.loop_values.specs.declared.stop.TypeStop.{TypeStop}
use Rattle.loop_values.specs.declared.stop.TypeStop.TheVariants.{Differs}

-- ---- equal kinds

abbrev pub same_all : List (ValueKind → Bool) → List ValueKind → Bool
same_all [] [] = true
same_all (f ∷ fs) (k ∷ ks) = f k && same_all fs ks
same_all _ _ = false

abbrev pub same_at : ValueKind-F (ValueKind → Bool) → ValueKind-F ValueKind → Bool
same_at k.Int k.Int = true
same_at k.Bool k.Bool = true
same_at k.Text k.Text = true
same_at (k.Tuple fs) (k.Tuple ks) = same_all fs ks
same_at (k.Maybe f) (k.Maybe x) = f x
same_at _ _ = false

abbrev pub same_step : ValueKind-F (ValueKind → Bool) → ValueKind → Bool
same_step f x = same_at f (out-ValueKind x)

-- whether two kinds are one
abbrev pub same_kind : ValueKind → ValueKind → Bool
same_kind = fold-ValueKind (ValueKind → Bool) same_step

-- ---- what is needed

-- the kind of a name, where it has one: `get names` for kinds of names
abbrev pub Kinds : Type 0
Kinds = List ℕ → Option ValueKind

abbrev pub Kinded : Type 0
Kinded = Result ValueKind TypeStop

-- what kind an expression has, given the kinds of names
abbrev pub Typing : Type 0
Typing = Kinds → Kinded

abbrev pub and_then : Kinded → (ValueKind → Kinded) → Kinded
and_then (Ok x) f = f x
and_then (Err s) f = Err s

abbrev pub known : Option ValueKind → Kinded
known (Some x) = Ok x
known None = Err Differs

abbrev pub is_int : ValueKind → Bool
is_int Int = true
is_int _ = false

abbrev pub is_bool : ValueKind → Bool
is_bool Truth = true
is_bool _ = false

abbrev pub is_text : ValueKind → Bool
is_text Text = true
is_text _ = false

abbrev pub is_maybe_at : ValueKind-F ValueKind → Bool
is_maybe_at (k.Maybe x) = true
is_maybe_at _ = false

abbrev pub is_maybe : ValueKind → Bool
is_maybe x = is_maybe_at (out-ValueKind x)

-- the kind where what is needed holds
abbrev pub kind_if : Bool → ValueKind → Kinded
kind_if true x = Ok x
kind_if false x = Err Differs

abbrev pub both_of : (ValueKind → Bool) → ValueKind → ValueKind → Bool
both_of p x y = p x && p y

-- two Int or two Text
abbrev pub is_ordered : ValueKind → ValueKind → Bool
is_ordered x y = both_of is_int x y || both_of is_text x y

-- two of one kind among Int, Bool and Text
abbrev pub is_comparable : ValueKind → ValueKind → Bool
is_comparable x y = is_ordered x y || both_of is_bool x y

-- ---- the forms

abbrev pub literal_kind : Value → Kinded
literal_kind (value.Int n) = Ok Int
literal_kind (value.Bool b) = Ok Truth
literal_kind (value.Text t) = Ok Text
literal_kind _ = Err Differs

abbrev pub two_kind : Op → ValueKind → ValueKind → Kinded
two_kind op.Join x y = kind_if (both_of is_text x y) Text
two_kind op.Eq x y = kind_if (is_comparable x y) Truth
two_kind op.Ne x y = kind_if (is_comparable x y) Truth
two_kind op.Lt x y = kind_if (is_ordered x y) Truth
two_kind op.Le x y = kind_if (is_ordered x y) Truth
two_kind op.Gt x y = kind_if (is_ordered x y) Truth
two_kind op.Ge x y = kind_if (is_ordered x y) Truth
two_kind op.And x y = kind_if (both_of is_bool x y) Truth
two_kind op.Or x y = kind_if (both_of is_bool x y) Truth
two_kind _ x y = kind_if (both_of is_int x y) Int

abbrev pub call_kind : Word → ValueKind → Kinded
call_kind word.Abs x = kind_if (is_int x) Int
call_kind word.Len x = kind_if (is_text x) Int
call_kind word.Int x = kind_if (is_text x) Int
call_kind word.TryInt x = kind_if (is_text x) (Maybe Int)
call_kind word.Text x = kind_if (is_int x || is_bool x || is_text x) Text

-- of `if c then a else nothing`: Maybe of a's kind, or a's kind where it is Maybe
abbrev pub maybe_of : ValueKind → ValueKind
maybe_of x = if is_maybe x then x else Maybe x

-- of `if c then a else b`, where a has the kind x
abbrev pub other_kind : ValueKind → Option Typing → Kinds → Kinded
other_kind x None names = Ok (maybe_of x)
other_kind x (Some m) names = and_then (m names) (λ y. kind_if (same_kind x y) x)

abbrev pub is_tuple_length : ℕ → Bool
is_tuple_length n = nat_le 2 n && nat_le n 4

abbrev pub tuple_kind : List ValueKind → Kinded
tuple_kind parts = kind_if (is_tuple_length (length parts)) (Tuple parts)

-- of a tuple, given the kinds that are done and the parts that are left; none of them is Maybe
abbrev pub part_kinds : List ValueKind → List Typing → Kinds → Kinded
part_kinds done [] names = tuple_kind done
part_kinds done (m ∷ ms) names =
    and_then (m names) (λ x. if is_maybe x then Err Differs else part_kinds (done ++ x ∷ []) ms names)

-- one layer of an expression, given the kinds of its parts
abbrev pub kind_step : Expr-F Typing → Typing
kind_step (e.Lit v) names = literal_kind v
kind_step (e.Name n) names = known (names n)
kind_step e.Place names = Ok Int
kind_step (e.Neg a) names = and_then (a names) (λ x. kind_if (is_int x) Int)
kind_step (e.Not a) names = and_then (a names) (λ x. kind_if (is_bool x) Truth)
kind_step (e.Two o a b) names = and_then (a names) (λ x. and_then (b names) (two_kind o x))
kind_step (e.Call w a) names = and_then (a names) (call_kind w)
kind_step (e.If t a b) names =
    and_then (t names) (λ x. if is_bool x then and_then (a names) (λ y. other_kind y b names) else Err Differs)
kind_step (e.Tuple ps) names = part_kinds [] ps names

abbrev pub kind_of : Expr → Typing
kind_of = fold-Expr Typing kind_step

-- ---- well-formed kinds

-- a kind with no Maybe in it, given whether its parts are such
abbrev pub plain_kind_step : ValueKind-F Bool → Bool
plain_kind_step (k.Tuple ps) = is_tuple_length (length ps) && list_all (λ p. p) ps
plain_kind_step (k.Maybe p) = false
plain_kind_step _ = true

-- Int, Bool, Text, or a tuple of 2 to 4 such kinds
abbrev pub is_plain_kind : ValueKind → Bool
is_plain_kind = fold-ValueKind Bool plain_kind_step

abbrev pub inside_maybe_at : ValueKind-F ValueKind → ValueKind → ValueKind
inside_maybe_at (k.Maybe y) x = y
inside_maybe_at _ x = x

-- the kind within Maybe, where it is Maybe, else the kind itself
abbrev pub inside_maybe : ValueKind → ValueKind
inside_maybe x = inside_maybe_at (out-ValueKind x) x

-- Maybe stands only on the outside, and a tuple has 2 to 4 parts
abbrev pub is_well_formed : ValueKind → Bool
is_well_formed x = is_plain_kind (inside_maybe x)

-- the kinds of names are well formed
abbrev pub AreWellFormed : Kinds → Type 0
AreWellFormed names = (q : List ℕ) (x : ValueKind) → names q ≡ Some x → is_well_formed x ≡ true

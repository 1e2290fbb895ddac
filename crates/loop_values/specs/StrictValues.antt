-- The value of an expression with no defaults: none where an operand is of a kind that the operation does not take, a name is
-- not bound, or a tuple is none. Source: this project. So it tells where the values of Values are asked for in earnest.
use Rattle.std.specs.Prelude.{ℕ, Bool, true, false, not, if◌then◌else◌, List, [], ◌∷◌, ◌++◌, length, codes, Option, Some, None}
use Rattle.std.specs.Prelude.{Ok, Err, ℤ, pos, ◌+ℤ◌, ◌-ℤ◌, ◌*ℤ◌, neg_ℤ, int_lt, unsigned_abs}
use Rattle.std.specs.Int.{int_min, int_max}
use Rattle.std.specs.Ordering.{is_lt, nat_cmp, int_eq}
use Rattle.std.specs.Cmp.Lexicographic.{slice_cmp}
use Rattle.std.specs.Fmt.{signed_decimal}
use Rattle.std.specs.Str.{bytes_eq}
use Rattle.loop_data.specs.declared.value.Value.{Value, out-Value}
use Rattle.loop_data.specs.declared.value.Value.TheVariants.{Int, Bool as Truth, Text, Nothing, Tuple}
use Rattle.loop_data.specs.declared.value.Value.TheOpen.{Value-F, Value-F as v}
use Rattle.loop_data.specs.declared.expr.Op.{Op}
use Rattle.loop_data.specs.declared.expr.Op.TheVariants as op
use Rattle.loop_data.specs.declared.expr.Word.{Word}
use Rattle.loop_data.specs.declared.expr.Word.TheVariants as word
use Rattle.loop_data.specs.declared.expr.Expr.{Expr}
use Rattle.loop_data.specs.declared.expr.Expr.TheOpen.{Expr-F, Expr-F as e}
use Rattle.loop_data.specs.declared.expr.Expr.TheFolds.{fold-Expr}
use Rattle.loop_data.specs.ValueParts.{same_bool}
use Rattle.loop_values.specs.Bindings.{Names, place_name}
use Rattle.loop_values.specs.Kinds.{is_tuple_length}
use Rattle.loop_values.specs.Operations.{Outcome, wrapped, divided, remainder, modulo, within_limit, truth, number_or_fault}
use Rattle.loop_values.specs.Operations.{number_or_nothing}
use Rattle.loop_values.specs.Spelling.{spelled}

-- a value or the first fault, where each operand that is asked for is such as is taken
abbrev pub Strict : Type 0
Strict = Option Outcome

abbrev pub StrictMeaning : Type 0
StrictMeaning = Names → Strict

-- go on with the value; a fault stays, and so does the want of a value
abbrev pub then_strictly : Strict → (Value → Strict) → Strict
then_strictly (Some (Ok x)) f = f x
then_strictly (Some (Err s)) f = Some (Err s)
then_strictly None f = None

-- ---- operands of one kind

abbrev pub of_int : (ℤ → Outcome) → Value → Strict
of_int f (Int n) = Some (f n)
of_int f _ = None

abbrev pub of_text : (List ℕ → Outcome) → Value → Strict
of_text f (Text t) = Some (f t)
of_text f _ = None

abbrev pub with_bool : Value → (Bool → Strict) → Strict
with_bool (Truth b) f = f b
with_bool _ f = None

abbrev pub of_bool : (Bool → Outcome) → Value → Strict
of_bool f x = with_bool x (λ b. Some (f b))

abbrev pub of_ints : (ℤ → ℤ → Outcome) → Value → Value → Strict
of_ints f (Int a) (Int b) = Some (f a b)
of_ints f _ _ = None

abbrev pub of_texts : (List ℕ → List ℕ → Outcome) → Value → Value → Strict
of_texts f (Text a) (Text b) = Some (f a b)
of_texts f _ _ = None

-- ---- comparisons

-- two of one kind among Int, Bool and Text
abbrev pub if_equal : Value → Value → Option Bool
if_equal (Int a) (Int b) = Some (int_eq a b)
if_equal (Truth a) (Truth b) = Some (same_bool a b)
if_equal (Text a) (Text b) = Some (bytes_eq a b)
if_equal _ _ = None

-- two Int or two Text
abbrev pub if_less : Value → Value → Option Bool
if_less (Int a) (Int b) = Some (int_lt a b)
if_less (Text a) (Text b) = Some (is_lt (slice_cmp nat_cmp a b))
if_less _ _ = None

abbrev pub told : Option Bool → Strict
told (Some b) = Some (truth b)
told None = None

abbrev pub told_not : Option Bool → Strict
told_not (Some b) = Some (truth (not b))
told_not None = None

-- ---- the operations of two sides, and the words

-- but for `and` and `or`
abbrev pub strict_two : Op → Value → Value → Strict
strict_two op.Add x y = of_ints (λ a b. wrapped (a +ℤ b)) x y
strict_two op.Sub x y = of_ints (λ a b. wrapped (a -ℤ b)) x y
strict_two op.Mul x y = of_ints (λ a b. wrapped (a *ℤ b)) x y
strict_two op.Div x y = of_ints divided x y
strict_two op.Rem x y = of_ints remainder x y
strict_two op.Mod x y = of_ints modulo x y
strict_two op.Min x y = of_ints (λ a b. Ok (Int (int_min a b))) x y
strict_two op.Max x y = of_ints (λ a b. Ok (Int (int_max a b))) x y
strict_two op.Join x y = of_texts (λ a b. within_limit (a ++ b)) x y
strict_two op.Eq x y = told (if_equal x y)
strict_two op.Ne x y = told_not (if_equal x y)
strict_two op.Lt x y = told (if_less x y)
strict_two op.Le x y = told_not (if_less y x)
strict_two op.Gt x y = told (if_less y x)
strict_two op.Ge x y = told_not (if_less x y)
strict_two _ x y = None

-- with the left side's value x, and what the right side gives; `and` and `or` leave the right out where the left decides
abbrev pub strict_second : Op → Value → Strict → Strict
strict_second op.And x r = with_bool x (λ b. if b then then_strictly r (of_bool truth) else Some (truth false))
strict_second op.Or x r = with_bool x (λ b. if b then Some (truth true) else then_strictly r (of_bool truth))
strict_second o x r = then_strictly r (strict_two o x)

abbrev pub strict_text : Value → Strict
strict_text (Int n) = Some (Ok (Text (signed_decimal n)))
strict_text (Truth b) = Some (Ok (Text (if b then codes "true" else codes "false")))
strict_text (Text t) = Some (Ok (Text t))
strict_text _ = None

abbrev pub strict_call : Word → Value → Strict
strict_call word.Abs x = of_int (λ n. wrapped (pos (unsigned_abs n))) x
strict_call word.Len x = of_text (λ t. Ok (Int (pos (length t)))) x
strict_call word.Int x = of_text (λ t. number_or_fault (spelled t)) x
strict_call word.TryInt x = of_text (λ t. number_or_nothing (spelled t)) x
strict_call word.Text x = strict_text x

-- ---- literals and names

abbrev pub strict_literal : Value → Strict
strict_literal (Int n) = Some (Ok (Int n))
strict_literal (Truth b) = Some (Ok (Truth b))
strict_literal (Text t) = Some (Ok (Text t))
strict_literal _ = None

abbrev pub strict_name : Option Value → Strict
strict_name (Some x) = Some (Ok x)
strict_name None = None

abbrev pub strict_place : Option Value → Strict
strict_place (Some x) = of_int (λ n. Ok (Int n)) x
strict_place None = None

-- ---- conditions and tuples

-- what stands after `else`, or nothing
abbrev pub strict_other : Option StrictMeaning → Names → Strict
strict_other (Some m) env = m env
strict_other None env = Some (Ok Nothing)

abbrev pub unless_nothing : Value-F Value → Strict → Strict
unless_nothing v.Nothing r = None
unless_nothing _ r = r

-- the tuple of the values that are done and of the parts that are left: 2 to 4, none of them nothing
abbrev pub strict_parts : List Value → List StrictMeaning → Names → Strict
strict_parts done [] env = if is_tuple_length (length done) then Some (Ok (Tuple done)) else None
strict_parts done (m ∷ ms) env =
    then_strictly (m env) (λ x. unless_nothing (out-Value x) (strict_parts (done ++ x ∷ []) ms env))

-- one layer of an expression, given what its parts mean
abbrev pub strict_step : Expr-F StrictMeaning → StrictMeaning
strict_step (e.Lit x) env = strict_literal x
strict_step (e.Name n) env = strict_name (env n)
strict_step e.Place env = strict_place (env place_name)
strict_step (e.Neg a) env = then_strictly (a env) (of_int (λ n. wrapped (neg_ℤ n)))
strict_step (e.Not a) env = then_strictly (a env) (of_bool (λ b. truth (not b)))
strict_step (e.Two o a b) env = then_strictly (a env) (λ x. strict_second o x (b env))
strict_step (e.Call w a) env = then_strictly (a env) (strict_call w)
strict_step (e.If t a b) env = then_strictly (t env) (λ x. with_bool x (λ c. if c then a env else strict_other b env))
strict_step (e.Tuple ps) env = strict_parts [] ps env

abbrev pub strict_value_of : Expr → StrictMeaning
strict_value_of = fold-Expr StrictMeaning strict_step

-- The operations of the loop language on values: what each gives, or its fault.
-- Source: Julia for the wrap of 64-bit numbers, `div`, `rem` and `mod`; this project for the rest.
use Rattle.std.specs.Prelude.{◌≡◌, ℕ, Bool, true, false, not, ◌&&◌, ◌||◌, if◌then◌else◌, List, [], ◌++◌, length, codes, Option}
use Rattle.std.specs.Prelude.{Some, None, Result, Ok, Err, ℤ, pos, negsuc, ◌+ℤ◌, ◌-ℤ◌, ◌*ℤ◌, int_lt, int_div, int_rem, nat_le}
use Rattle.std.specs.Prelude.{unsigned_abs}
use Rattle.std.specs.Int.{w64, int_wrap, int_min, int_max}
use Rattle.std.specs.Ordering.{is_lt, nat_cmp, int_eq}
use Rattle.std.specs.Cmp.Lexicographic.{slice_cmp}
use Rattle.std.specs.Fmt.{signed_decimal}
use Rattle.loop_data.specs.ValueParts.{as_int, as_bool, as_text, is_equal, same_bool}
use Rattle.loop_data.specs.declared.value.Value.{Value}
use Rattle.loop_data.specs.declared.value.Value.TheVariants.{Int, Bool as Truth, Text, Nothing}
use Rattle.loop_data.specs.declared.expr.Op.{Op}
use Rattle.loop_data.specs.declared.expr.Op.TheVariants as op
use Rattle.loop_data.specs.declared.expr.Word.{Word}
use Rattle.loop_data.specs.declared.expr.Word.TheVariants as word
use Rattle.loop_values.specs.declared.stop.EvalStop.{EvalStop}
use Rattle.loop_values.specs.declared.stop.EvalStop.TheVariants.{DivideError, NotANumber, TextTooLong}
use Rattle.loop_values.specs.Spelling.{spelled}

-- a value, or the first fault
abbrev pub Outcome : Type 0
Outcome = Result Value EvalStop

-- go on with the value; a fault stays
abbrev pub and_then : Outcome → (Value → Outcome) → Outcome
and_then (Ok v) f = f v
and_then (Err s) f = Err s

-- ---- numbers

abbrev pub least_int : ℤ
least_int = negsuc 9223372036854775807

abbrev pub wrapped : ℤ → Outcome
wrapped n = Ok (Int (int_wrap w64 n))

-- whether `a div b` is a fault: b is 0, or a is the least number and b is -1
abbrev pub has_no_quotient : ℤ → ℤ → Bool
has_no_quotient a b = int_eq b (pos 0) || (int_eq a least_int && int_eq b (negsuc 0))

-- the quotient, truncated
abbrev pub divided : ℤ → ℤ → Outcome
divided a b = if has_no_quotient a b then Err DivideError else Ok (Int (int_div a b))

-- what is left of the division, with the sign of a; a fault over 0
abbrev pub remainder : ℤ → ℤ → Outcome
remainder a b = if int_eq b (pos 0) then Err DivideError else Ok (Int (int_rem a b))

-- r where it is 0 or has the sign of b, else r + b
abbrev pub with_sign_of : ℤ → ℤ → ℤ
with_sign_of b r = if int_eq r (pos 0) || same_bool (int_lt r (pos 0)) (int_lt b (pos 0)) then r else r +ℤ b

-- what is left of the division, with the sign of b or 0; a fault over 0
abbrev pub modulo : ℤ → ℤ → Outcome
modulo a b = if int_eq b (pos 0) then Err DivideError else Ok (Int (with_sign_of b (int_rem a b)))

-- ---- texts

-- the most bytes that `&` may make
abbrev pub text_limit : ℕ
text_limit = 1048576

abbrev pub within_limit : List ℕ → Outcome
within_limit t = if nat_le (length t) text_limit then Ok (Text t) else Err TextTooLong

-- the left followed by the right
abbrev pub joined : Value → Value → Outcome
joined x y = within_limit (as_text x ++ as_text y)

-- the text of a value that isn't a tuple; of a tuple no line asks
abbrev pub text_of : Value → List ℕ
text_of (Int n) = signed_decimal n
text_of (Truth b) = if b then codes "true" else codes "false"
text_of (Text t) = t
text_of _ = []

-- ---- comparisons

-- texts by their bytes
abbrev pub is_less : Value → Value → Bool
is_less (Int a) (Int b) = int_lt a b
is_less (Text a) (Text b) = is_lt (slice_cmp nat_cmp a b)
is_less _ _ = false

-- what a comparison gives; false for any other operation
abbrev pub compared : Op → Value → Value → Bool
compared op.Eq x y = is_equal x y
compared op.Ne x y = not (is_equal x y)
compared op.Lt x y = is_less x y
compared op.Le x y = not (is_less y x)
compared op.Gt x y = is_less y x
compared op.Ge x y = not (is_less x y)
compared _ x y = false

-- ---- the operations of two sides, and the words

abbrev pub truth : Bool → Outcome
truth b = Ok (Truth b)

abbrev pub two_of : Op → Value → Value → Outcome
two_of op.Add x y = wrapped (as_int x +ℤ as_int y)
two_of op.Sub x y = wrapped (as_int x -ℤ as_int y)
two_of op.Mul x y = wrapped (as_int x *ℤ as_int y)
two_of op.Div x y = divided (as_int x) (as_int y)
two_of op.Rem x y = remainder (as_int x) (as_int y)
two_of op.Mod x y = modulo (as_int x) (as_int y)
two_of op.Min x y = Ok (Int (int_min (as_int x) (as_int y)))
two_of op.Max x y = Ok (Int (int_max (as_int x) (as_int y)))
two_of op.Join x y = joined x y
two_of op.Eq x y = truth (is_equal x y)
two_of op.Ne x y = truth (not (is_equal x y))
two_of op.Lt x y = truth (is_less x y)
two_of op.Le x y = truth (not (is_less y x))
two_of op.Gt x y = truth (is_less y x)
two_of op.Ge x y = truth (not (is_less x y))
two_of op.And x y = truth (as_bool y)
two_of op.Or x y = truth (as_bool y)

-- the operations of numbers that give a number
abbrev pub is_arithmetic : Op → Bool
is_arithmetic op.Add = true
is_arithmetic op.Sub = true
is_arithmetic op.Mul = true
is_arithmetic op.Div = true
is_arithmetic op.Rem = true
is_arithmetic op.Mod = true
is_arithmetic op.Min = true
is_arithmetic op.Max = true
is_arithmetic _ = false

abbrev pub is_comparison : Op → Bool
is_comparison op.Eq = true
is_comparison op.Ne = true
is_comparison op.Lt = true
is_comparison op.Le = true
is_comparison op.Gt = true
is_comparison op.Ge = true
is_comparison _ = false

-- the operations that give a truth value
abbrev pub gives_truth : Op → Bool
gives_truth op.And = true
gives_truth op.Or = true
gives_truth o = is_comparison o

-- the words that give a number
abbrev pub is_counting : Word → Bool
is_counting word.Abs = true
is_counting word.Len = true
is_counting word.Int = true
is_counting _ = false

-- whether the left side decides, so that the right is left out
abbrev pub decides : Op → Value → Bool
decides op.And x = not (as_bool x)
decides op.Or x = as_bool x
decides _ x = false

abbrev pub number_or_fault : Option ℤ → Outcome
number_or_fault (Some n) = Ok (Int n)
number_or_fault None = Err NotANumber

abbrev pub number_or_nothing : Option ℤ → Outcome
number_or_nothing (Some n) = Ok (Int n)
number_or_nothing None = Ok Nothing

abbrev pub call_of : Word → Value → Outcome
call_of word.Abs x = wrapped (pos (unsigned_abs (as_int x)))
call_of word.Len x = Ok (Int (pos (length (as_text x))))
call_of word.Int x = number_or_fault (spelled (as_text x))
call_of word.TryInt x = number_or_nothing (spelled (as_text x))
call_of word.Text x = Ok (Text (text_of x))

-- ---- what an outcome counts as where a number or a truth value is needed

abbrev pub Number : Type 0
Number = Result ℤ EvalStop

abbrev pub Test : Type 0
Test = Result Bool EvalStop

abbrev pub int_or_fault : Outcome → Number
int_or_fault (Ok v) = Ok (as_int v)
int_or_fault (Err s) = Err s

abbrev pub bool_or_fault : Outcome → Test
bool_or_fault (Ok v) = Ok (as_bool v)
bool_or_fault (Err s) = Err s

abbrev pub number_value : Number → Outcome
number_value (Ok n) = Ok (Int n)
number_value (Err s) = Err s

abbrev pub truth_value : Test → Outcome
truth_value (Ok b) = Ok (Truth b)
truth_value (Err s) = Err s

-- the outcome is a number or a fault
abbrev pub IsNumber : Outcome → Type 0
IsNumber r = r ≡ number_value (int_or_fault r)

-- the outcome is a truth value or a fault
abbrev pub IsTruth : Outcome → Type 0
IsTruth r = r ≡ truth_value (bool_or_fault r)

-- what an operation of numbers gives; 0 for any other operation
abbrev pub arithmetic : Op → ℤ → ℤ → Number
arithmetic op.Add a b = Ok (int_wrap w64 (a +ℤ b))
arithmetic op.Sub a b = Ok (int_wrap w64 (a -ℤ b))
arithmetic op.Mul a b = Ok (int_wrap w64 (a *ℤ b))
arithmetic op.Div a b = int_or_fault (divided a b)
arithmetic op.Rem a b = int_or_fault (remainder a b)
arithmetic op.Mod a b = int_or_fault (modulo a b)
arithmetic op.Min a b = Ok (int_min a b)
arithmetic op.Max a b = Ok (int_max a b)
arithmetic _ a b = Ok (pos 0)

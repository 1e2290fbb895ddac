-- What a value holds: its number, truth value, text or parts. What it counts as where it holds no such thing is asked by no
-- expression that has a kind. Source: this project.
use Rattle.std.specs.Prelude.{ℕ, Bool, true, false, not, List, [], ◌∷◌, ℤ, pos}
use Rattle.std.specs.Ordering.{int_eq}
use Rattle.std.specs.Str.{bytes_eq}
use Rattle.loop_data.specs.declared.value.Value.{Value, out-Value}
use Rattle.loop_data.specs.declared.value.Value.TheVariants.{Int, Bool as Truth, Text}
use Rattle.loop_data.specs.declared.value.Value.TheOpen.{Value-F, Value-F as v}

abbrev pub as_int : Value → ℤ
as_int (Int n) = n
as_int _ = pos 0

abbrev pub as_bool : Value → Bool
as_bool (Truth b) = b
as_bool _ = false

abbrev pub as_text : Value → List ℕ
as_text (Text t) = t
as_text _ = []

-- ---- tuples

abbrev pub parts_at : Value-F Value → List Value
parts_at (v.Tuple ps) = ps
parts_at _ = []

-- the parts of a tuple, and none of any other value
abbrev pub parts_of : Value → List Value
parts_of x = parts_at (out-Value x)

abbrev pub first_or_zero : List Value → Value
first_or_zero [] = Int (pos 0)
first_or_zero (x ∷ _) = x

abbrev pub second_or_zero : List Value → Value
second_or_zero [] = Int (pos 0)
second_or_zero (_ ∷ xs) = first_or_zero xs

-- the two parts of a pair
abbrev pub left_of : Value → Value
left_of x = first_or_zero (parts_of x)

abbrev pub right_of : Value → Value
right_of x = second_or_zero (parts_of x)

-- ---- equal values, as `==` of the loop language tells them

abbrev pub same_bool : Bool → Bool → Bool
same_bool true b = b
same_bool false b = not b

abbrev pub is_equal : Value → Value → Bool
is_equal (Int a) (Int b) = int_eq a b
is_equal (Truth a) (Truth b) = same_bool a b
is_equal (Text a) (Text b) = bytes_eq a b
is_equal _ _ = false

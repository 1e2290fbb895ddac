-- The parts of the inputs of towers, as their reducers take them.
-- Source: this project.
use Rattle.std.specs.Prelude.{◌≡◌, ℕ, Bool, ◌&&◌, pos, nat_abs}
use Rattle.loop_data.specs.declared.value.Value.{Value, out-Value}
use Rattle.loop_data.specs.ValueParts.{as_int, left_of, right_of}
use Rattle.loop_values.specs.Fits.{is_pair, is_text_at}

-- the input of `argmin` or `argmax`: a value and its place
abbrev pub at_place : Value → Value × ℕ
at_place input = (left_of input, nat_abs (as_int (right_of input)))

-- its place is no negative number
abbrev pub HasPlace : Value → Type 0
HasPlace input = pos (nat_abs (as_int (right_of input))) ≡ as_int (right_of input)

-- the input is a pair whose left part is a text, as those of `group` are
abbrev pub is_keyed : Value → Bool
is_keyed input = is_pair input && is_text_at (out-Value (left_of input))

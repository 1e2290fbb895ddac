-- Numbers and choices as the values of settings. Source: this project.
use Rattle.std.specs.Prelude.{ℕ, Bool, true, false, ◌&&◌, nat_le, List, length, codes, bytes_eq, Option, Some, None, if◌then◌else◌}
use Rattle.std.specs.Str.{all_ascii_digits}
use Rattle.std.specs.Str.Parse.{digits_value}

-- one to twenty ASCII digits, of which the first may be zeros
abbrev pub is_numeral : List ℕ → Bool
is_numeral text = nat_le 1 (length text) && nat_le (length text) 20 && all_ascii_digits text

-- whether a number lies between two, which count
abbrev pub is_between : ℕ → ℕ → ℕ → Bool
is_between least most n = nat_le least n && nat_le n most

-- the number that a text is, if it is one between these two
abbrev pub number_within : ℕ → ℕ → List ℕ → Option ℕ
number_within least most text =
    if is_numeral text && is_between least most (digits_value 10 text) then Some (digits_value 10 text) else None

-- what `yes` and `no` say
abbrev pub answer_named : List ℕ → Option Bool
answer_named text = if bytes_eq text (codes "yes") then Some true else if bytes_eq text (codes "no") then Some false else None

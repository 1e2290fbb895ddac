-- The kinds of bytes in a line of a loop, and the escapes of a text literal.
-- Source: this project's language.
use Rattle.std.specs.Prelude.{ℕ, Bool, ◌||◌, ◌&&◌, nat_le, ◌==◌, Option, Some, None, if◌then◌else◌}

-- A to Z, a to z, or `_`
abbrev pub is_letter : ℕ → Bool
is_letter b = (nat_le 65 b && nat_le b 90) || ((nat_le 97 b && nat_le b 122) || b == 95)

-- 0 to 9
abbrev pub is_digit : ℕ → Bool
is_digit b = nat_le 48 b && nat_le b 57

-- what a name has behind its first letter
abbrev pub is_word_byte : ℕ → Bool
is_word_byte b = is_letter b || is_digit b

-- a space or a tab
abbrev pub is_blank : ℕ → Bool
is_blank b = b == 32 || b == 9

-- what a byte stands for behind a backslash: `"`, `\`, LF for `n`, tab for `t`
abbrev pub escape : ℕ → Option ℕ
escape b = if b == 34 then Some 34 else (if b == 92 then Some 92 else
    (if b == 110 then Some 10 else (if b == 116 then Some 9 else None)))

-- Which number a text spells: after spaces and tabs at both ends are taken off, an optional sign and ASCII digits, in range.
-- Source: this project.
use Rattle.std.specs.Prelude.{ℕ, ◌+◌, ◌-◌, ◌*◌, Bool, ◌||◌, ◌==◌, nat_le, if◌then◌else◌, List, [], ◌∷◌, reverse, Option, Some}
use Rattle.std.specs.Prelude.{None, ℤ, pos, neg_ℤ}
use Rattle.std.specs.Char.{is_ascii_digit}

-- a space or a tab
abbrev pub is_blank : ℕ → Bool
is_blank c = c == 32 || c == 9

-- the bytes without the blanks at the start
abbrev pub skip_blanks : List ℕ → List ℕ
skip_blanks [] = []
skip_blanks (c ∷ cs) = if is_blank c then skip_blanks cs else c ∷ cs

-- the bytes without the blanks at the end
abbrev pub skip_blanks_back : List ℕ → List ℕ
skip_blanks_back bs = reverse (skip_blanks (reverse bs))

abbrev pub trimmed : List ℕ → List ℕ
trimmed bs = skip_blanks_back (skip_blanks bs)

-- the number that digits write after the digits of n, where there is nothing but digits
abbrev pub natural_after : ℕ → List ℕ → Option ℕ
natural_after n [] = Some n
natural_after n (c ∷ cs) = if is_ascii_digit c then natural_after (10 * n + (c - 48)) cs else None

-- the number that one or more digits write, of any size
abbrev pub natural : List ℕ → Option ℕ
natural [] = None
natural (c ∷ cs) = natural_after 0 (c ∷ cs)

-- the number where it is at most `most`
abbrev pub up_to : ℕ → Option ℕ → Option ℕ
up_to most (Some n) = if nat_le n most then Some n else None
up_to most None = None

abbrev pub positive : Option ℕ → Option ℤ
positive (Some n) = Some (pos n)
positive None = None

abbrev pub negative : Option ℕ → Option ℤ
negative (Some n) = Some (neg_ℤ (pos n))
negative None = None

-- an optional `-` or `+`, then digits, from -2^63 to 2^63 - 1
abbrev pub signed : List ℕ → Option ℤ
signed [] = None
signed (c ∷ cs) =
    if c == 45 then negative (up_to 9223372036854775808 (natural cs))
    else (if c == 43 then positive (up_to 9223372036854775807 (natural cs))
    else positive (up_to 9223372036854775807 (natural (c ∷ cs))))

abbrev pub spelled : List ℕ → Option ℤ
spelled bs = signed (trimmed bs)

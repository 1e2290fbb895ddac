-- What the digits of a number and the characters between two quotes stand for, and how a text is written between quotes.
-- Source: this project's language.
use Rattle.std.specs.Prelude.{ℕ, ◌+◌, ◌*◌, ◌-◌, Bool, true, false, ◌==◌, List, [], ◌∷◌, fold, flat_map, if◌then◌else◌}

-- the number that digits spell, of any size
abbrev pub number_of : List ℕ → ℕ
number_of digits = fold (λ n d. 10 * n + (d - 48)) 0 digits

-- what a byte stands for behind a backslash, itself where it is no escape
abbrev pub unescaped : ℕ → ℕ
unescaped b = if b == 110 then 10 else (if b == 116 then 9 else b)

-- the bytes that others stand for, the flag saying that a backslash comes before them
abbrev pub meaning : Bool → List ℕ → List ℕ
meaning escaped [] = []
meaning true (b ∷ bs) = unescaped b ∷ meaning false bs
meaning false (b ∷ bs) = if b == 92 then meaning true bs else b ∷ meaning false bs

-- the text that stands between two quotes: each escape is replaced by what it stands for
abbrev pub text_of : List ℕ → List ℕ
text_of raw = meaning false raw

-- a byte of a text as it is written between quotes
abbrev pub escaped_byte : ℕ → List ℕ
escaped_byte b = if b == 34 then 92 ∷ 34 ∷ [] else (if b == 92 then 92 ∷ 92 ∷ [] else
    (if b == 10 then 92 ∷ 110 ∷ [] else (if b == 9 then 92 ∷ 116 ∷ [] else b ∷ [])))

-- a text as it is written between quotes: the four escapes, and other bytes as they are
abbrev pub escaped : List ℕ → List ℕ
escaped text = flat_map escaped_byte text

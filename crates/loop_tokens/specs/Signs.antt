-- The signs of the loop language.
-- Source: this project's language.
use Rattle.std.specs.Prelude.{ℕ, Bool, false, ◌&&◌, is_some, List, [], ◌∷◌, ◌==◌, Option, Some, None, if◌then◌else◌, codes}
use Rattle.loop_tokens.specs.declared.sign.Sign.{Sign}
use Rattle.loop_tokens.specs.declared.sign.Sign.TheVariants as s

-- the characters of a sign
abbrev pub sign_text : Sign → List ℕ
sign_text s.PlusAssign = codes "+="
sign_text s.Equal = codes "=="
sign_text s.NotEqual = codes "!="
sign_text s.AtMost = codes "<="
sign_text s.AtLeast = codes ">="
sign_text s.Less = codes "<"
sign_text s.Greater = codes ">"
sign_text s.Assign = codes "="
sign_text s.Plus = codes "+"
sign_text s.Minus = codes "-"
sign_text s.Star = codes "*"
sign_text s.Join = codes "&"
sign_text s.Colon = codes ":"
sign_text s.Comma = codes ","
sign_text s.Open = codes "("
sign_text s.Close = codes ")"

-- the sign that is this one byte: < > = + - * & : , ( )
abbrev pub short_sign : ℕ → Option Sign
short_sign b = if b == 60 then Some s.Less else (if b == 62 then Some s.Greater else (if b == 61 then Some s.Assign else
    (if b == 43 then Some s.Plus else (if b == 45 then Some s.Minus else (if b == 42 then Some s.Star else
    (if b == 38 then Some s.Join else (if b == 58 then Some s.Colon else (if b == 44 then Some s.Comma else
    (if b == 40 then Some s.Open else (if b == 41 then Some s.Close else None))))))))))

-- the sign that is this byte with a `=` behind it: + = ! < >
abbrev pub long_sign : ℕ → Option Sign
long_sign b = if b == 43 then Some s.PlusAssign else (if b == 61 then Some s.Equal else (if b == 33 then Some s.NotEqual else
    (if b == 60 then Some s.AtMost else (if b == 62 then Some s.AtLeast else None))))

-- the sign that these bytes are, all of them together
abbrev pub sign_of : List ℕ → Option Sign
sign_of (b ∷ []) = short_sign b
sign_of (b ∷ c ∷ []) = if c == 61 then long_sign b else None
sign_of _ = None

abbrev pub is_sign : List ℕ → Bool
is_sign bs = is_some (sign_of bs)

-- whether the byte is a sign of two characters together with the next
abbrev pub is_long_sign : ℕ → List ℕ → Bool
is_long_sign b [] = false
is_long_sign b (c ∷ cs) = c == 61 && is_some (long_sign b)

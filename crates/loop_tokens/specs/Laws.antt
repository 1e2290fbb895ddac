-- Laws of tokens.
-- Source: this project's language.
use Rattle.std.specs.Prelude.{◌≡◌, ℕ, Bool, true, false, List, [], ◌∷◌, ◌++◌, Some, Option}
use Rattle.loop_tokens.specs.declared.token.Token.{Token}
use Rattle.loop_tokens.specs.declared.keyword.Keyword.{Keyword}
use Rattle.loop_tokens.specs.declared.sign.Sign.{Sign}
use Rattle.loop_tokens.specs.Signs.{sign_of, sign_text}
use Rattle.loop_tokens.specs.Keywords.{keyword_of, keyword_text}
use Rattle.loop_tokens.specs.Literals.{text_of, escaped}
use Rattle.loop_tokens.specs.Tokens.{Holds, closes}

-- a line holds one list of tokens at most, and is whole or isn't
abbrev pub OneLexing : Type 0
OneLexing = (line : List ℕ) (ts us : List Token) (whole also : Bool) →
    Holds line ts whole → Holds line us also → (ts ≡ us) × (whole ≡ also)

-- each line holds some tokens
abbrev pub SomeTokens : Type 0
SomeTokens = (line : List ℕ) → (ts : List Token) × (whole : Bool) × Holds line ts whole

-- a text that is written with its escapes is a text literal, and stands for the text
abbrev pub EscapesReadBack : Type 0
EscapesReadBack = (text : List ℕ) → (closes false (escaped text ++ 34 ∷ []) ≡ true) × (text_of (escaped text) ≡ text)

-- the letters of a reserved word are that word, and the characters of a sign that sign
abbrev pub WordsReadBack : Type 0
WordsReadBack = (w : Keyword) → ◌≡◌ {A = Option Keyword} (keyword_of (keyword_text w)) (Some w)

abbrev pub SignsReadBack : Type 0
SignsReadBack = (s : Sign) → ◌≡◌ {A = Option Sign} (sign_of (sign_text s)) (Some s)

-- Tokens as they are written in a line, with the spaces before them.
-- Source: this project's language.
use Rattle.std.specs.Prelude.{◌≡◌, ℕ, Bool, true, false, ◌||◌, List, [], ◌∷◌, ◌++◌, flat_map, map, Some, if◌then◌else◌}
use Rattle.loop_tokens.specs.declared.token.Token.{Token}
use Rattle.loop_tokens.specs.declared.token.Token.TheVariants as tok
use Rattle.loop_tokens.specs.declared.sign.Sign.TheVariants as sg
use Rattle.loop_tokens.specs.Keywords.{keyword_text, at_text}
use Rattle.loop_tokens.specs.Signs.{sign_text}
use Rattle.loop_tokens.specs.Tokens.{token_of}

-- a token, and whether a space stands before it
pub record Mark : Type 0 where
  pub apart : Bool
  pub token : Token

-- the bytes of a token
abbrev pub token_text : Token → List ℕ
token_text (tok.Name n) = n
token_text (tok.Number n) = n
token_text (tok.Text raw) = 34 ∷ raw ++ 34 ∷ []
token_text (tok.Keyword k) = keyword_text k
token_text (tok.At a) = at_text a
token_text (tok.Sign s) = sign_text s

abbrev pub mark_text : Mark → List ℕ
mark_text m = if m.apart then 32 ∷ token_text m.token else token_text m.token

-- the bytes of a line with these tokens
abbrev pub marks_text : List Mark → List ℕ
marks_text ms = flat_map mark_text ms

abbrev pub tokens_in : List Mark → List Token
tokens_in ms = map (λ m. m.token) ms

-- `(`, `)`, `,` and `:`, which belong to no longer token
abbrev pub is_edge : Token → Bool
is_edge (tok.Sign sg.Open) = true
is_edge (tok.Sign sg.Close) = true
is_edge (tok.Sign sg.Comma) = true
is_edge (tok.Sign sg.Colon) = true
is_edge _ = false

-- `-`, which no longer token begins with
abbrev pub is_minus : Token → Bool
is_minus (tok.Sign sg.Minus) = true
is_minus _ = false

-- whether the second token may stand directly behind the first
abbrev pub may_touch : Token → Token → Bool
may_touch t u = is_edge t || (is_edge u || is_minus t)

-- AreReadable marks: each token is one by itself, and stands apart from the one before it or may touch it.
pub data AreReadable : List Mark → Type 0 where
  none : AreReadable []
  last : {m : Mark} → token_of (token_text m.token) ≡ Some m.token → AreReadable (m ∷ [])
  more : {m n : Mark} {ms : List Mark} →
      token_of (token_text m.token) ≡ Some m.token → (n.apart || may_touch m.token n.token) ≡ true → AreReadable (n ∷ ms) →
      AreReadable (m ∷ n ∷ ms)

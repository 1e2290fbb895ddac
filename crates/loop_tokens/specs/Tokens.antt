-- The tokens of a line of a loop: which bytes are a token, and which tokens a line holds, the longest first.
-- Source: this project's language.
use Rattle.std.specs.Prelude.{◌≡◌, ◌≢◌, ℕ, ◌-◌, ◌<◌, ◌≤◌, Bool, true, false, ◌&&◌, not, ◌==◌, List, [], ◌∷◌, length, take, drop}
use Rattle.std.specs.Prelude.{Option, Some, None, is_some, option_map, if◌then◌else◌}
use Rattle.std.specs.List.{list_all}
use Rattle.loop_tokens.specs.declared.token.Token.{Token}
use Rattle.loop_tokens.specs.declared.token.Token.TheVariants as t
use Rattle.loop_tokens.specs.declared.keyword.Keyword.{Keyword}
use Rattle.loop_tokens.specs.Bytes.{is_letter, is_digit, is_word_byte, is_blank, escape}
use Rattle.loop_tokens.specs.Signs.{sign_of}
use Rattle.loop_tokens.specs.Keywords.{keyword_of, at_word_of}

abbrev pub is_empty : List ℕ → Bool
is_empty [] = true
is_empty (b ∷ bs) = false

-- Whether the bytes behind an opening quote end with the quote that closes it, and have none before. The flag says that a
-- backslash comes before them: behind it only an escape may stand. No other LF may stand in a text.
abbrev pub closes : Bool → List ℕ → Bool
closes escaped [] = false
closes true (b ∷ bs) = is_some (escape b) && closes false bs
closes false (b ∷ bs) = if b == 34 then is_empty bs else (if b == 92 then closes true bs else (not (b == 10) && closes false bs))

-- a reserved word is no name
abbrev pub named : Option Keyword → List ℕ → Token
named (Some word) bs = t.Keyword word
named None bs = t.Name bs

-- The token that these bytes are, all of them together: a name or a reserved word, a number, a text, an at-word or a sign.
abbrev pub token_of : List ℕ → Option Token
token_of [] = None
token_of (b ∷ bs) =
    if is_letter b then (if list_all is_word_byte bs then Some (named (keyword_of (b ∷ bs)) (b ∷ bs)) else None)
    else (if is_digit b then (if list_all is_digit bs then Some (t.Number (b ∷ bs)) else None)
    else (if b == 34 then (if closes false bs then Some (t.Text (take (length bs - 1) bs)) else None)
    else (if b == 64 then option_map t.At (at_word_of bs)
    else option_map t.Sign (sign_of (b ∷ bs)))))

-- the first n bytes pass the test, and no longer front does
pub record IsLongestFront (test : List ℕ → Bool) (bytes : List ℕ) (n : ℕ) : Type 0 where
  pub within : n ≤ length bytes
  pub passes : test (take n bytes) ≡ true
  pub longest : (m : ℕ) → n < m → m ≤ length bytes → test (take m bytes) ≡ false

-- no front passes the test
abbrev pub NoFront : (List ℕ → Bool) → List ℕ → Type 0
NoFront test bytes = (n : ℕ) → n ≤ length bytes → test (take n bytes) ≡ false

abbrev pub is_token : List ℕ → Bool
is_token bs = is_some (token_of bs)

-- the longest token at the front of `bytes` is t, and `rest` follows it
pub record Longest (t : Token) (bytes rest : List ℕ) : Type 0 where
  pub size : ℕ
  pub front : IsLongestFront is_token bytes size
  pub is : token_of (take size bytes) ≡ Some t
  pub behind : rest ≡ drop size bytes

-- no token begins there
abbrev pub NoToken : List ℕ → Type 0
NoToken bytes = NoFront is_token bytes

-- the line ends there, or a comment begins
abbrev pub ends : List ℕ → Bool
ends [] = true
ends (b ∷ bs) = b == 35

-- Holds bytes ts whole: the bytes of a line hold the tokens ts, up to its end or a comment where `whole`, and otherwise up to
-- the first character that begins no token.
pub data Holds : List ℕ → List Token → Bool → Type 0 where
  end : {bytes : List ℕ} → ends bytes ≡ true → Holds bytes [] true
  stuck : {b : ℕ} {bytes : List ℕ} → is_blank b ≡ false → b ≢ 35 → NoToken (b ∷ bytes) → Holds (b ∷ bytes) [] false
  blank : {b : ℕ} {bytes : List ℕ} {ts : List Token} {whole : Bool} →
      is_blank b ≡ true → Holds bytes ts whole → Holds (b ∷ bytes) ts whole
  token : {t : Token} {bytes rest : List ℕ} {ts : List Token} {whole : Bool} →
      Longest t bytes rest → Holds rest ts whole → Holds bytes (t ∷ ts) whole

-- Laws of the canonical text: what is laid out is read back.
-- Source: this project's language.
use Rattle.std.specs.Prelude.{◌≡◌, ℕ, ◌<◌, ◌^◌, Bool, true, List, [], ◌∷◌, ◌++◌, replicate, Some, pos, IsUtf8}
use Rattle.std.specs.Fmt.{signed_decimal}
use Rattle.loop_tokens.specs.declared.token.Token.{Token}
use Rattle.loop_tokens.specs.declared.token.Token.TheVariants as tok
use Rattle.loop_tokens.specs.declared.keyword.Keyword.{Keyword}
use Rattle.loop_tokens.specs.declared.keyword.AtWord.{AtWord}
use Rattle.loop_tokens.specs.declared.sign.Sign.{Sign}
use Rattle.loop_tokens.specs.Tokens.{token_of, Holds}
use Rattle.loop_tokens.specs.Literals.{number_of, text_of, escaped}
use Rattle.loop_tokens.specs.Lines.{lines_of}
use Rattle.loop_layout.specs.Layout.{Mark, token_text, marks_text, tokens_in, AreReadable}
use Rattle.loop_grammar.specs.declared.line.Line.{Line}
use Rattle.loop_grammar.specs.LineForms.{SpellsLine}
use Rattle.loop_layout.specs.Canonical.{line_marks}
use Rattle.loop_layout.specs.Rows.{Row, rows_text, rows_lines, IsLine, AreRows}

-- a line of readable marks, behind any number of spaces, holds their tokens and nothing else
abbrev pub LaidOut : Type 0
LaidOut = (indent : ℕ) (ms : List Mark) → AreReadable ms → Holds (replicate indent 32 ++ marks_text ms) (tokens_in ms) true

-- the bytes of the token are that token
abbrev pub IsReadable : Token → Type 0
IsReadable t = token_of (token_text t) ≡ Some t

-- P holds of each token
abbrev pub AllTokens : (Token → Type 0) → List Token → Type 0
AllTokens P [] = Unit {0}
AllTokens P (t ∷ ts) = P t × AllTokens P ts

abbrev pub AllReadable : List Token → Type 0
AllReadable ts = AllTokens IsReadable ts

-- reserved words, at-words and signs
abbrev pub ReadableWords : Type 0
ReadableWords = (w : Keyword) → IsReadable (tok.Keyword w)

abbrev pub ReadableAtWords : Type 0
ReadableAtWords = (a : AtWord) → IsReadable (tok.At a)

abbrev pub ReadableSigns : Type 0
ReadableSigns = (s : Sign) → IsReadable (tok.Sign s)

-- a text that is written with its escapes, which stands for the text
abbrev pub ReadableTexts : Type 0
ReadableTexts = (text : List ℕ) → IsReadable (tok.Text (escaped text)) × (text_of (escaped text) ≡ text)

-- the digits of a number of 64 bits, which spell the number
abbrev pub ReadableNumbers : Type 0
ReadableNumbers = (n : ℕ) → n < 2 ^ 64 →
    IsReadable (tok.Number (signed_decimal (pos n))) × (number_of (signed_decimal (pos n)) ≡ n)

-- each token that a line holds
abbrev pub ReadableHeld : Type 0
ReadableHeld = (bytes : List ℕ) (ts : List Token) (whole : Bool) → Holds bytes ts whole → AllReadable ts

-- the text of rows has the lines that the rows name, and empty lines between them
abbrev pub RowsAreLines : Type 0
RowsAreLines = (n : ℕ) (rows : List Row) → AreRows n rows → lines_of (rows_text n rows) ≡ rows_lines n rows

-- a line of readable marks can be a row
abbrev pub LaidOutLines : Type 0
LaidOutLines = (indent : ℕ) (ms : List Mark) → AreReadable ms → IsLine (replicate indent 32 ++ marks_text ms)

-- what the program names, counts or holds as text is UTF-8; words and signs are in any case
abbrev pub IsUtf8Token : Token → Type 0
IsUtf8Token (tok.Name n) = IsUtf8 n
IsUtf8Token (tok.Number n) = IsUtf8 n
IsUtf8Token (tok.Text raw) = IsUtf8 raw
IsUtf8Token _ = Unit {0}

abbrev pub AllUtf8 : List Token → Type 0
AllUtf8 ts = AllTokens IsUtf8Token ts

-- the bytes of each row are UTF-8
abbrev pub AllRowsUtf8 : List Row → Type 0
AllRowsUtf8 [] = Unit {0}
AllRowsUtf8 (r ∷ rs) = IsUtf8 r.bytes × AllRowsUtf8 rs

-- what is laid out of such tokens is UTF-8, and so is the text of such rows
abbrev pub LaidOutUtf8 : Type 0
LaidOutUtf8 = (indent : ℕ) (ms : List Mark) → AllUtf8 (tokens_in ms) → IsUtf8 (replicate indent 32 ++ marks_text ms)

abbrev pub RowsUtf8 : Type 0
RowsUtf8 = (n : ℕ) (rows : List Row) → AllRowsUtf8 rows → IsUtf8 (rows_text n rows)

-- the escapes of a text and the digits of a number are UTF-8
abbrev pub EscapedUtf8 : Type 0
EscapedUtf8 = (text : List ℕ) → IsUtf8 text → IsUtf8 (escaped text)

abbrev pub NumbersUtf8 : Type 0
NumbersUtf8 = (n : ℕ) → n < 2 ^ 64 → IsUtf8 (signed_decimal (pos n))

-- the tokens of a line that is UTF-8 are UTF-8, and so is what a text literal stands for
abbrev pub HeldUtf8 : Type 0
HeldUtf8 = (bytes : List ℕ) (ts : List Token) (whole : Bool) → IsUtf8 bytes → Holds bytes ts whole → AllUtf8 ts

abbrev pub MeaningUtf8 : Type 0
MeaningUtf8 = (raw : List ℕ) → IsUtf8 raw → IsUtf8 (text_of raw)

-- what is written of a line has a space wherever one must part two tokens
abbrev pub CanonicalSpaces : Type 0
CanonicalSpaces = (form : Line) → AllReadable (tokens_in (line_marks form)) → AreReadable (line_marks form)

-- What is written of a line that readable tokens spell is readable, and UTF-8 where these tokens are. It holds where a number is
-- too wide as well, since 0 stands for it.
abbrev pub CanonicalReadable : Type 0
CanonicalReadable = (form : Line) (wide : Bool) (ts : List Token) →
    SpellsLine form wide ts → AllReadable ts → AreReadable (line_marks form)

abbrev pub CanonicalUtf8 : Type 0
CanonicalUtf8 = (form : Line) (wide : Bool) (ts : List Token) →
    SpellsLine form wide ts → AllUtf8 ts → AllUtf8 (tokens_in (line_marks form))

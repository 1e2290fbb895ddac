-- Which text spells which program, and the first refusal of a text that spells none.
-- Source: this project's language.
use Rattle.std.specs.Prelude.{◌≡◌, ◌≢◌, ℕ, ◌+◌, ◌<◌, ◌≤◌, Bool, true, false, List, [], ◌∷◌, length, IsUtf8}
use Rattle.loop_tokens.specs.declared.token.Token.{Token}
use Rattle.loop_tokens.specs.Lines.{lines_of, IsBadByte}
use Rattle.loop_tokens.specs.Tokens.{Holds}
use Rattle.loop_tokens.specs.Limits.{is_too_deep}
use Rattle.loop_grammar.specs.declared.line.Line.{Line}
use Rattle.loop_grammar.specs.declared.line.NumberedLine.{NumberedLine}
use Rattle.loop_grammar.specs.declared.tree.ProgramTree.{ProgramTree}
use Rattle.loop_grammar.specs.declared.refusal.SyntaxRefusal.{SyntaxRefusal}
use Rattle.loop_grammar.specs.declared.refusal.SyntaxRefusal.TheVariants as refusal
use Rattle.loop_grammar.specs.LineForms.{SpellsLine, line_groups}
use Rattle.loop_grammar.specs.Nesting.{on, most_blocks, Nests, NestingRefusal}

-- the most groups that may be nested in a tower
abbrev pub most_groups : ℕ
most_groups = 4

-- why a line is refused by itself
pub data LineRefusal : Type 0 where
  too_deep : LineRefusal
  not_a_line : LineRefusal
  too_wide : LineRefusal

-- what a line is
pub data Verdict : Type 0 where
  blank : Verdict
  says : Line → Verdict
  refused : LineRefusal → Verdict

-- TokensSay tokens whole verdict: what the tokens of a line say, `whole` telling whether they go on to its end or to a comment.
-- The first that applies decides.
pub data TokensSay : List Token → Bool → Verdict → Type 0 where
  -- over 256 tokens that are no parentheses, or over 256 open parentheses
  deep : {ts : List Token} {whole : Bool} → is_too_deep ts ≡ true → TokensSay ts whole (refused too_deep)
  -- a character begins no token
  stuck : {ts : List Token} → is_too_deep ts ≡ false → TokensSay ts false (refused not_a_line)
  none : TokensSay [] true blank
  -- the tokens spell no line
  not_spelled : {ts : List Token} →
      is_too_deep ts ≡ false → ts ≢ [] → ((x : Line) (wide : Bool) → SpellsLine x wide ts → ⊥) →
      TokensSay ts true (refused not_a_line)
  -- over 4 nested groups
  groups : {ts : List Token} {x : Line} {wide : Bool} →
      is_too_deep ts ≡ false → SpellsLine x wide ts → most_groups < line_groups x → TokensSay ts true (refused too_deep)
  -- a number that is too wide
  wide : {ts : List Token} {x : Line} →
      is_too_deep ts ≡ false → SpellsLine x true ts → line_groups x ≤ most_groups → TokensSay ts true (refused too_wide)
  line : {ts : List Token} {x : Line} →
      is_too_deep ts ≡ false → SpellsLine x false ts → line_groups x ≤ most_groups → TokensSay ts true (says x)

-- what the bytes of a line say
abbrev pub Says : List ℕ → Verdict → Type 0
Says bytes verdict = (ts : List Token) × (whole : Bool) × Holds bytes ts whole × TokensSay ts whole verdict

-- AllSay n lines forms: the lines, the first of which has the number n, are blank or say these forms.
pub data AllSay : ℕ → List (List ℕ) → List NumberedLine → Type 0 where
  none : {n : ℕ} → AllSay n [] []
  blank_line : {n : ℕ} {bytes : List ℕ} {lines : List (List ℕ)} {forms : List NumberedLine} →
      Says bytes blank → AllSay (n + 1) lines forms → AllSay n (bytes ∷ lines) forms
  line : {n : ℕ} {bytes : List ℕ} {x : Line} {lines : List (List ℕ)} {forms : List NumberedLine} →
      Says bytes (says x) → AllSay (n + 1) lines forms → AllSay n (bytes ∷ lines) (on n x ∷ forms)

abbrev pub refusal_at : LineRefusal → ℕ → SyntaxRefusal
refusal_at too_deep n = refusal.TooDeep n
refusal_at not_a_line n = refusal.NotALine n
refusal_at too_wide n = refusal.NumberTooWide n

-- FirstLineRefusal n lines r: r is the refusal of the first of the lines that is refused by itself, the first line having the
-- number n.
pub data FirstLineRefusal : ℕ → List (List ℕ) → SyntaxRefusal → Type 0 where
  here : {n : ℕ} {bytes : List ℕ} {lines : List (List ℕ)} {f : LineRefusal} →
      Says bytes (refused f) → FirstLineRefusal n (bytes ∷ lines) (refusal_at f n)
  after_blank : {n : ℕ} {bytes : List ℕ} {lines : List (List ℕ)} {r : SyntaxRefusal} →
      Says bytes blank → FirstLineRefusal (n + 1) lines r → FirstLineRefusal n (bytes ∷ lines) r
  after_line : {n : ℕ} {bytes : List ℕ} {x : Line} {lines : List (List ℕ)} {r : SyntaxRefusal} →
      Says bytes (says x) → FirstLineRefusal (n + 1) lines r → FirstLineRefusal n (bytes ∷ lines) r

-- The text spells the program: it is UTF-8, each of its lines is blank or has a form within the limits, and the lines nest to
-- the program.
pub record SpellsProgram (text : List ℕ) (program : ProgramTree) : Type 0 where
  pub utf8 : IsUtf8 text
  pub forms : List NumberedLine
  pub lines : AllSay 1 (lines_of text) forms
  pub nests : Nests most_blocks program forms

-- The first refusal of a text: that it isn't UTF-8; then the first line that is refused by itself; then the first line that
-- breaks the nesting.
pub data FirstRefusal : List ℕ → SyntaxRefusal → Type 0 where
  not_utf8 : {text : List ℕ} {byte : ℕ} → (IsUtf8 text → ⊥) → IsBadByte text byte → FirstRefusal text (refusal.NotUtf8 byte)
  refused_line : {text : List ℕ} {r : SyntaxRefusal} → IsUtf8 text → FirstLineRefusal 1 (lines_of text) r → FirstRefusal text r
  nesting : {text : List ℕ} {forms : List NumberedLine} {r : SyntaxRefusal} → IsUtf8 text → AllSay 1 (lines_of text) forms →
      NestingRefusal forms (length (lines_of text) + 1) r → FirstRefusal text r

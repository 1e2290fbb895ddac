-- What is claimed of the verdict on a line.
-- Source: this project.
use Rattle.std.specs.Prelude.{◌≡◌, ℕ, Bool, true, false, List, Option, Some, None, Result, Ok, Err}
use Rattle.loop_tokens.specs.declared.token.Token.{Token}
use Rattle.loop_tokens.specs.declared.token.LineTokens.{LineTokens}
use Rattle.loop_tokens.specs.Limits.{is_too_deep}
use Rattle.loop_exprs.specs.declared.read.ReadError.{ReadError}
use Rattle.loop_exprs.specs.declared.read.ReadError.TheVariants.{NoMemory, NotSpelled}
use Rattle.loop_grammar.specs.declared.line.Line.{Line}
use Rattle.loop_grammar.specs.declared.refusal.SyntaxRefusal.{SyntaxRefusal}
use Rattle.loop_grammar.specs.declared.refusal.SyntaxRefusal.TheVariants as refusal
use Rattle.loop_grammar.specs.LineForms.{SpellsLine}
use Rattle.loop_grammar.specs.Texts.{LineRefusal, Verdict, blank, says, refused, TokensSay, Says, refusal_at}

-- the verdict on a line that isn't refused
abbrev pub said : Option Line → Verdict
said None = blank
said (Some x) = says x

-- the line with the number n is refused by itself, and r is its refusal
abbrev pub IsRefusal : List Token → Bool → ℕ → SyntaxRefusal → Type 0
IsRefusal ts whole n r = (f : LineRefusal) × TokensSay ts whole (refused f) × (r ≡ refusal_at f n)

-- the same of a line's tokens
abbrev pub IsLineRefusal : LineTokens → ℕ → SyntaxRefusal → Type 0
IsLineRefusal line n r = IsRefusal line.tokens.items line.whole n r

-- it is the verdict on the line with the number n, unless memory ran out
abbrev pub IsVerdict : List Token → Bool → ℕ → Result (Option Line) SyntaxRefusal → Type 0
IsVerdict ts whole n (Ok x) = TokensSay ts whole (said x)
IsVerdict ts whole n (Err refusal.NoMemory) = Unit {0}
IsVerdict ts whole n (Err r) = IsRefusal ts whole n r

-- the refusal of a line whose tokens couldn't be read
abbrev pub refusal_of : ReadError → ℕ → SyntaxRefusal
refusal_of NoMemory n = refusal.NoMemory
refusal_of NotSpelled n = refusal.NotALine n

-- why the line that the tokens spell is refused, or that it isn't, whatever these tokens
abbrev pub IsOwnRefusal : ℕ → Line → Bool → Option SyntaxRefusal → Type 0
IsOwnRefusal n x wide None =
    (ts : List Token) → is_too_deep ts ≡ false → SpellsLine x wide ts → TokensSay ts true (says x)
IsOwnRefusal n x wide (Some r) =
    (ts : List Token) → is_too_deep ts ≡ false → SpellsLine x wide ts → IsRefusal ts true n r

-- the value, unless there is a refusal
abbrev pub unless : {A : Type 0} → Option SyntaxRefusal → A → Result A SyntaxRefusal
unless None x = Ok x
unless (Some r) x = Err r

-- the tokens of a line say one thing at most
abbrev pub OneVerdict : Type 0
OneVerdict = (ts : List Token) (whole : Bool) (a b : Verdict) →
    TokensSay ts whole a → TokensSay ts whole b → a ≡ b

-- the bytes of a line say one thing at most
abbrev pub OneSaying : Type 0
OneSaying = (bytes : List ℕ) (a b : Verdict) → Says bytes a → Says bytes b → a ≡ b

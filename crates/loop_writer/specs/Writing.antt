-- What is written of the lines of a text, from the line on that is written next.
-- Source: this project.
use Rattle.std.specs.Prelude.{◌≡◌, ℕ, ◌+◌, ◌-◌, ◌*◌, List, [], ◌∷◌, ◌++◌, map, replicate}
use Rattle.std.specs.Global.{Vec}
use Rattle.loop_tokens.specs.declared.token.Token.TheVariants as tok
use Rattle.loop_tokens.specs.declared.keyword.Keyword.{Keyword}
use Rattle.loop_grammar.specs.declared.line.Line.{Line}
use Rattle.loop_layout.specs.Layout.{Mark, marks_text}
use Rattle.loop_layout.specs.Canonical.{glued, line_marks}
use Rattle.loop_layout.specs.Rows.{rows_text}
use Rattle.loop_writer.specs.declared.rows.Rows.{Rows}
use Rattle.loop_writer.specs.Programs.{Placed, placed_at, row_of}

-- these tokens, with their spaces, were written behind what stood there
abbrev pub Writes : Vec ℕ → Vec ℕ → List Mark → Type 0
Writes old new ms = new.items ≡ old.items ++ marks_text ms

-- the number of the line that is written behind these, n being that of the first
abbrev pub line_behind : ℕ → List Placed → ℕ
line_behind n [] = n
line_behind n (p ∷ ps) = line_behind (p.line + 1) ps

-- the lines ps were written
pub record Wrote (old new : Rows) (ps : List Placed) : Type 0 where
  pub text : new.text.items ≡ old.text.items ++ rows_text old.next (map row_of ps)
  pub next : new.next ≡ line_behind old.next ps

-- one line was written, inside so many open blocks
abbrev pub WroteLine : Rows → Rows → ℕ → ℕ → Line → Type 0
WroteLine old new depth n form = Wrote old new (placed_at depth n form ∷ [])

-- the line is this reserved word and nothing else
abbrev pub IsWord : Line → Keyword → Type 0
IsWord form word = line_marks form ≡ glued (tok.Keyword word) ∷ []

-- a line with number n was begun, inside d open blocks
pub record Begun (old new : Rows) (n d : ℕ) : Type 0 where
  pub text : new.text.items ≡ old.text.items ++ replicate (n - old.next) 10 ++ replicate (2 * d) 32
  pub next : new.next ≡ n + 1

-- the line was ended
pub record Ended (old new : Rows) : Type 0 where
  pub text : new.text.items ≡ old.text.items ++ 10 ∷ []
  pub next : new.next ≡ old.next

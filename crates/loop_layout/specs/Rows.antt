-- A text of lines that stand on lines of given numbers, with empty lines between them.
-- Source: this project's language.
use Rattle.std.specs.Prelude.{◌≡◌, ℕ, ◌+◌, ◌-◌, ◌≤◌, List, [], ◌∷◌, ◌++◌, replicate}

-- the bytes of a line, and its number
pub record Row : Type 0 where
  pub line : ℕ
  pub bytes : List ℕ

-- The rows, each on its line, with empty lines between; n is the number of the first line that is written. Each line ends with
-- LF.
abbrev pub rows_text : ℕ → List Row → List ℕ
rows_text n [] = []
rows_text n (r ∷ rs) = replicate (r.line - n) 10 ++ (r.bytes ++ 10 ∷ rows_text (r.line + 1) rs)

-- the lines of that text
abbrev pub rows_lines : ℕ → List Row → List (List ℕ)
rows_lines n [] = []
rows_lines n (r ∷ rs) = replicate (r.line - n) [] ++ (r.bytes ∷ rows_lines (r.line + 1) rs)

-- a line of it holds no LF and doesn't end with CR
pub record IsLine (bytes : List ℕ) : Type 0 where
  pub no_lf : (before after : List ℕ) → bytes ≡ before ++ 10 ∷ after → ⊥
  pub no_cr : (before : List ℕ) → bytes ≡ before ++ 13 ∷ [] → ⊥

-- the rows stand one below another, the first at line n or below
pub data AreRows : ℕ → List Row → Type 0 where
  none : {n : ℕ} → AreRows n []
  more : {n : ℕ} {r : Row} {rs : List Row} → n ≤ r.line → IsLine r.bytes → AreRows (r.line + 1) rs → AreRows n (r ∷ rs)

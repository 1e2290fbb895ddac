-- The canonical text of a program that some text spells is spelled as the same program.
use Rattle.std.proofs.Common.{◌≡◌, ℕ, suc, ◌+◌, ◌-◌, ◌*◌, ◌≤◌, Bool, true, List, [], ◌∷◌, ◌++◌, map, replicate, IsUtf8, refl, ap, sym, subst, arith}
use Rattle.loop_tokens.specs.declared.token.Token.{Token}
use Rattle.loop_tokens.specs.Tokens.{Holds}
use Rattle.loop_grammar.specs.declared.line.Line.{Line}
use Rattle.loop_grammar.specs.declared.line.NumberedLine.{NumberedLine}
use Rattle.loop_grammar.specs.Nesting.{on, most_blocks, Nests}
use Rattle.loop_grammar.specs.Texts.{TokensSay, blank, says, Says, AllSay}
use Rattle.loop_layout.specs.Layout.{tokens_in}
use Rattle.loop_layout.specs.Rows.{rows_lines, IsLine, AreRows}
use Rattle.loop_layout.specs.Laws.{AllRowsUtf8}
use Rattle.loop_layout.specs.Canonical.{line_marks, line_text}
use Rattle.loop_layout.proofs.LongestTokens.{laid_out}
use Rattle.loop_layout.proofs.LineBytes.{laid_out_lines}
use Rattle.loop_layout.proofs.RowLines.{rows_are_lines}
use Rattle.loop_layout.proofs.ReadableTokens.{readable_held}
use Rattle.loop_layout.proofs.ReadUtf8.{held_utf8}
use Rattle.loop_layout.proofs.WrittenUtf8.{laid_out_utf8, rows_utf8}
use Rattle.loop_writer.specs.Programs.{Placed, placed_at, row_of, placed}
use Rattle.loop_writer.specs.Laws.{WrittenIsSpelled}
use Rattle.loop_writer.proofs.SpelledLines.{line_spelled}
use Rattle.loop_writer.proofs.Tidy.{AllSound, all_sound}
use Rattle.loop_writer.proofs.TidyLines.{line_readable, line_utf8, line_narrow}
use Rattle.loop_writer.proofs.Placing.{numbered, AllNumbered, program_flat}
use Rattle.loop_writer.proofs.TextLines.{AllTexts, lines_utf8}

-- the line is written so that it says the same
pub record LineBack (x : Line) (d : ℕ) : Type 0 where
  pub said : Says (line_text d x) (says x)
  pub line : IsLine (line_text d x)
  pub utf8 : IsUtf8 (line_text d x)

line_back : {x : Line} {ts : List Token} {whole : Bool} → AllSound ts → TokensSay ts whole (says x) → (d : ℕ) → LineBack x d
line_back {x = x} sound (TokensSay.line narrow spelled few) d =
    let readable = line_readable spelled refl sound in
    record {
      said = (tokens_in (line_marks x), true, laid_out (2 * d) (line_marks x) readable, TokensSay.line (line_narrow spelled refl sound narrow) (line_spelled spelled refl) few);
      line = laid_out_lines (2 * d) (line_marks x) readable;
      utf8 = laid_out_utf8 (2 * d) (line_marks x) (line_utf8 spelled refl sound);
    }

says_back : {x : Line} (bytes : List ℕ) → IsUtf8 bytes → Says bytes (says x) → (d : ℕ) → LineBack x d
says_back bytes u h d = line_back (all_sound h.0 (readable_held bytes h.0 h.1 h.2) (held_utf8 bytes h.0 h.1 u h.2)) h.3 d

-- the placed lines are rows from line n on, which say their forms
pub record RowsBack (n : ℕ) (ps : List Placed) : Type 0 where
  pub rows : AreRows n (map row_of ps)
  pub utf8 : AllRowsUtf8 (map row_of ps)
  pub said : AllSay n (rows_lines n (map row_of ps)) (map numbered ps)

empty_says : Says [] blank
empty_says = ([], true, Holds.end refl, TokensSay.none)

-- an empty line comes before them
after_empty : (n : ℕ) (ps : List Placed) → RowsBack (n + 1) ps → RowsBack n ps
after_empty n [] h = record { rows = AreRows.none; utf8 = tt; said = AllSay.none }
after_empty n (p ∷ ps) h = by h.rows where
  by : AreRows (n + 1) (row_of p ∷ map row_of ps) → RowsBack n (p ∷ ps)
  by (AreRows.more le line rest) =
      let more : List (List ℕ) = line_text p.depth p.form ∷ rows_lines (p.line + 1) (map row_of ps) in
      let gap : p.line - n ≡ suc (p.line - (n + 1)) = omega arith in
      let P : ℕ → Type 0 = λ k. AllSay n (replicate k [] ++ more) (map numbered (p ∷ ps)) in
      record { rows = AreRows.more (omega arith) line rest; utf8 = h.utf8; said = subst P (sym gap) (AllSay.blank_line empty_says h.said) }

-- a line comes before them
after_line : (n d : ℕ) (x : Line) (ps : List Placed) → LineBack x d → RowsBack (n + 1) ps → RowsBack n (placed_at d n x ∷ ps)
after_line n d x ps b h =
    let none : n - n ≡ 0 = omega arith in
    let more : List (List ℕ) = line_text d x ∷ rows_lines (n + 1) (map row_of ps) in
    let P : ℕ → Type 0 = λ k. AllSay n (replicate k [] ++ more) (on n x ∷ map numbered ps) in
    record { rows = AreRows.more (omega arith) b.line h.rows; utf8 = (b.utf8, h.utf8); said = subst P (sym none) (AllSay.line b.said h.said) }

no_forms : (x : NumberedLine) (xs : List NumberedLine) → [] ≡ x ∷ xs → ⊥
no_forms x xs h = cc

first_form : {x y : NumberedLine} {xs ys : List NumberedLine} → x ∷ xs ≡ y ∷ ys → (x ≡ y) × (xs ≡ ys)
first_form h = (cc, cc)

-- a line of some text, its number and form those of p
line_there : (n : ℕ) (x : Line) (p : Placed) (ps : List Placed) → on n x ≡ numbered p → ((d : ℕ) → LineBack x d) → RowsBack (n + 1) ps → RowsBack n (p ∷ ps)
line_there n x p ps same b h =
    let line : n ≡ p.line = ap (λ (y : NumberedLine). y.line) same in
    let form : x ≡ p.form = ap (λ (y : NumberedLine). y.form) same in
    let P : ℕ → Type 0 = λ m. RowsBack n (placed_at p.depth m p.form ∷ ps) in
    let Q : Line → Type 0 = λ y. RowsBack n (placed_at p.depth n y ∷ ps) in
    subst P line (subst Q form (after_line n p.depth x ps (b p.depth) h))

pub rows_back : {n : ℕ} {lines : List (List ℕ)} {forms : List NumberedLine} → AllSay n lines forms → AllTexts lines → (ps : List Placed) → forms ≡ map numbered ps → RowsBack n ps
rows_back AllSay.none u [] same = record { rows = AreRows.none; utf8 = tt; said = AllSay.none }
rows_back AllSay.none u (p ∷ ps) same = absurd (no_forms (numbered p) (map numbered ps) same)
rows_back (AllSay.blank_line {n = n} b h) u ps same = after_empty n ps (rows_back h u.1 ps same)
rows_back (AllSay.line b h) u [] same = absurd (no_forms _ _ (sym same))
rows_back (AllSay.line {n = n} {bytes = bytes} {x = x} b h) u (p ∷ ps) same =
    let both = first_form same in
    line_there n x p ps both.0 (says_back bytes u.0 b) (rows_back h u.1 ps both.1)

-- lines that are counted from 1 have no number 0
numbered_from : {n : ℕ} {lines : List (List ℕ)} {forms : List NumberedLine} → AllSay n lines forms → 1 ≤ n → AllNumbered forms
numbered_from AllSay.none le = tt
numbered_from (AllSay.blank_line {n = n} b h) le = numbered_from h (omega arith)
numbered_from (AllSay.line {n = n} b h) le = ((λ (e : n ≡ 0). omega arith), numbered_from h (omega arith))

pub written_is_spelled : WrittenIsSpelled
written_is_spelled text p h =
    let ps = placed p in
    let same : h.forms ≡ map numbered ps = program_flat h.nests (numbered_from h.lines (omega arith)) in
    let b = rows_back h.lines (lines_utf8 text h.utf8) ps same in
    let P : List (List ℕ) → Type 0 = λ ls. AllSay 1 ls (map numbered ps) in
    record {
      utf8 = rows_utf8 1 (map row_of ps) b.utf8;
      forms = map numbered ps;
      lines = subst P (sym (rows_are_lines 1 (map row_of ps) b.rows)) b.said;
      nests = subst (Nests most_blocks p) same h.nests;
    }

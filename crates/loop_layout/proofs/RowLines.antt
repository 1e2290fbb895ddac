-- The lines of rows.
use Rattle.std.proofs.Common.{◌≡◌, ℕ, zero, suc, ◌+◌, ◌-◌, ◌<◌, Bool, true, false, cond, List, [], ◌∷◌, ◌++◌, length, take, replicate, get_or, eqb, refl, ap, sym, ◌∙◌, arith}
use Rattle.std.specs.List.{All, slice_split}
use Rattle.std.specs.Str.Lines.{lines_of_parts, strip_carriage_return}
use Rattle.std.proofs.lemmas.List.{take_more, take_all}
use Rattle.std.proofs.lemmas.List.Elements.{All-nil, All-cons}
use Rattle.std.proofs.lemmas.List.Splits.{slice_split_at, length-slice_split}
use Rattle.std.proofs.lemmas.Bool.Decides.{nat_tests}
use Rattle.loop_tokens.specs.Lines.{lines_of}
use Rattle.loop_layout.specs.Rows.{Row, rows_text, rows_lines, IsLine, AreRows}
use Rattle.loop_layout.specs.Laws.{RowsAreLines}

-- no byte is LF
no_lf_cons : (b : ℕ) (bs : List ℕ) (t : Bool) → eqb b 10 ≡ t → ((before after : List ℕ) → b ∷ bs ≡ before ++ 10 ∷ after → ⊥) → All (λ c. eqb c 10 ≡ false) bs → All (λ c. eqb c 10 ≡ false) (b ∷ bs)
no_lf_cons b bs true is none rest = let lf : b ≡ 10 = grind (arith, nat_tests) in absurd (none [] bs (ap (λ (c : ℕ). c ∷ bs) lf))
no_lf_cons b bs false is none rest = All-cons (λ c. eqb c 10 ≡ false) b bs is rest

no_lf_all : (bs : List ℕ) → ((before after : List ℕ) → bs ≡ before ++ 10 ∷ after → ⊥) → All (λ c. eqb c 10 ≡ false) bs
no_lf_all [] none = All-nil (λ c. eqb c 10 ≡ false)
no_lf_all (b ∷ bs) none = no_lf_cons b bs (eqb b 10) refl none (no_lf_all bs (λ before after e. none (b ∷ before) after (ap (λ ys. b ∷ ys) e)))

-- a line keeps its last byte
kept_end : (bs : List ℕ) (t : Bool) → eqb (get_or bs (length bs - 1) 0) 13 ≡ t → ((before : List ℕ) → bs ≡ before ++ 13 ∷ [] → ⊥) → cond t (take (length bs - 1) bs) bs ≡ bs
kept_end bs false is none = refl
kept_end [] true is none = cc
kept_end (b ∷ bs) true is none =
    let cr : get_or (b ∷ bs) (length (b ∷ bs) - 1) 0 ≡ 13 = grind (arith, nat_tests) in
    let whole : take (length (b ∷ bs) - 1 + 1) (b ∷ bs) ≡ b ∷ bs = take_all (length (b ∷ bs) - 1 + 1) (b ∷ bs) (omega arith) in
    let cut : take (length (b ∷ bs) - 1 + 1) (b ∷ bs) ≡ take (length (b ∷ bs) - 1) (b ∷ bs) ++ get_or (b ∷ bs) (length (b ∷ bs) - 1) 0 ∷ [] = take_more (b ∷ bs) (length (b ∷ bs) - 1) 0 (omega arith) in
    absurd (none (take (length (b ∷ bs) - 1) (b ∷ bs)) (sym whole ∙ cut ∙ ap (λ (c : ℕ). take (length (b ∷ bs) - 1) (b ∷ bs) ++ c ∷ []) cr))

parts_cons : (line : List ℕ) (parts : List (List ℕ)) → 0 < length parts → lines_of_parts (line ∷ parts) ≡ strip_carriage_return line ∷ lines_of_parts parts
parts_cons line [] some = absurd (omega arith)
parts_cons line (p ∷ ps) some = refl

-- a line that ends with LF comes first
pub line_first : (line rest : List ℕ) → IsLine line → lines_of (line ++ 10 ∷ rest) ≡ line ∷ lines_of rest
line_first line rest l =
    let cut : slice_split (λ b. eqb b 10) (line ++ 10 ∷ rest) ≡ line ∷ slice_split (λ b. eqb b 10) rest = slice_split_at (λ b. eqb b 10) line 10 rest (no_lf_all line l.no_lf) refl in
    let some : 0 < length (slice_split (λ b. eqb b 10) rest) = omega (arith, length-slice_split (λ b. eqb b 10) rest) in
    ap lines_of_parts cut ∙ parts_cons line (slice_split (λ b. eqb b 10) rest) some
    ∙ ap (λ xs. xs ∷ lines_of rest) (kept_end line (eqb (get_or line (length line - 1) 0) 13) refl l.no_cr)

empty_line : IsLine []
empty_line = record { no_lf = λ before after e. no_cons before 10 after e; no_cr = λ before e. no_cons before 13 [] e } where
  no_cons : (before : List ℕ) (c : ℕ) (after : List ℕ) → [] ≡ before ++ c ∷ after → ⊥
  no_cons [] c after e = cc
  no_cons (b ∷ bs) c after e = cc

empty_lines : (k : ℕ) (rest : List ℕ) → lines_of (replicate k 10 ++ rest) ≡ replicate k [] ++ lines_of rest
empty_lines zero rest = refl
empty_lines (suc k) rest = line_first [] (replicate k 10 ++ rest) empty_line ∙ ap (λ ls. [] ∷ ls) (empty_lines k rest)

rows_split : {n : ℕ} {rows : List Row} → AreRows n rows → lines_of (rows_text n rows) ≡ rows_lines n rows
rows_split AreRows.none = refl
rows_split (AreRows.more {n = n} {r = r} {rs = rs} le line later) =
    empty_lines (r.line - n) (r.bytes ++ 10 ∷ rows_text (r.line + 1) rs)
    ∙ ap (λ ls. replicate (r.line - n) [] ++ ls) (line_first r.bytes (rows_text (r.line + 1) rs) line ∙ ap (λ ls. r.bytes ∷ ls) (rows_split later))

pub rows_are_lines : RowsAreLines
rows_are_lines n rows stand = rows_split stand

-- Rows that are left, one less at each step.
use Rattle.std.proofs.Common.{◌≡◌, ℕ, ◌<◌, ◌≤◌, ◌-◌, ◌+◌, suc, List, ◌++◌, ap, sym, ◌∙◌, arith}
use Rattle.std.proofs.lemmas.List.{append-nil, append_assoc}
use Rattle.try_table.specs.Tables.{number_after, row_line, rows_after}

-- of the rows that are left, the first is that of the next number
one_less : (rows row x : ℕ) → row < rows →
    rows_after (rows - row) x ≡ row_line (number_after x) ++ rows_after (rows - (row + 1)) (number_after x)
one_less rows row x before =
    let left : rows - row ≡ suc (rows - (row + 1)) = omega (arith, before) in
    ap (λ n. rows_after n x) left

-- what was written and what is left are as before, where the next row was written
pub row_written : (text new : List ℕ) (rows row x next : ℕ) → row < rows → next ≡ number_after x → new ≡ text ++ row_line next →
    new ++ rows_after (rows - (row + 1)) next ≡ text ++ rows_after (rows - row) x
row_written text new rows row x next before is written =
    let rest = rows_after (rows - (row + 1)) (number_after x) in
    ap (λ n. new ++ rows_after (rows - (row + 1)) n) is
    ∙ ap (λ t. t ++ rest) (written ∙ ap (λ n. text ++ row_line n) is)
    ∙ append_assoc text (row_line (number_after x)) rest
    ∙ sym (ap (λ r. text ++ r) (one_less rows row x before))

-- none is left at the end
pub all_written : (text whole : List ℕ) (rows row x : ℕ) → rows ≤ row → text ++ rows_after (rows - row) x ≡ whole → text ≡ whole
all_written text whole rows row x end is =
    let left : 0 ≡ rows - row = omega (arith, end) in
    sym (append-nil text) ∙ ap (λ n. text ++ rows_after n x) left ∙ is

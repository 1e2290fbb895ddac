-- Lines that are written one after another.
use Rattle.std.proofs.Common.{◌≡◌, ℕ, ◌+◌, ◌-◌, ◌*◌, ◌<◌, ◌==◌, Bool, true, false, take, get_or, length, flat_map, subst, arith, List, [], ◌∷◌, ◌++◌, map, replicate, refl, ap, sym, ◌∙◌, append_assoc}
use Rattle.std.proofs.lemmas.Bool.Decides.{nat_tests}
use Rattle.std.proofs.lemmas.Grind.{flat_map-append}
use Rattle.std.proofs.lemmas.List.{append-nil, take_more, length-take, length-map, map-append}
use Rattle.loop_data.specs.declared.statement.Statement.{Statement}
use Rattle.loop_data.specs.declared.statement.Branch.{Branch}
use Rattle.loop_grammar.specs.declared.line.Line.{Line}
use Rattle.loop_layout.specs.Layout.{marks_text}
use Rattle.loop_layout.specs.Canonical.{line_marks}
use Rattle.loop_layout.specs.Rows.{rows_text}
use Rattle.loop_writer.specs.declared.rows.Rows.{Rows}
use Rattle.loop_writer.specs.Programs.{Placed, placed_at, row_of, Lines, BranchLines, all_lines, branches_lines, statement_lines, branch_lines, block_lines}
use Rattle.loop_writer.specs.Writing.{Wrote, Begun, Ended, line_behind}

pub rows_text-append : (n : ℕ) (ps qs : List Placed) → rows_text n (map row_of (ps ++ qs)) ≡ rows_text n (map row_of ps) ++ rows_text (line_behind n ps) (map row_of qs)
rows_text-append n [] qs = refl
rows_text-append n (p ∷ ps) qs =
    let r = row_of p in
    let gap = replicate (r.line - n) 10 in
    let more = rows_text (r.line + 1) (map row_of ps) in
    let last = rows_text (line_behind (r.line + 1) ps) (map row_of qs) in
    ap (λ (bs : List ℕ). gap ++ (r.bytes ++ 10 ∷ bs)) (rows_text-append (r.line + 1) ps qs) ∙
    ap (λ (bs : List ℕ). gap ++ bs) (sym (append_assoc r.bytes (10 ∷ more) last)) ∙ sym (append_assoc gap (r.bytes ++ 10 ∷ more) last)

pub line_behind-append : (n : ℕ) (ps qs : List Placed) → line_behind n (ps ++ qs) ≡ line_behind (line_behind n ps) qs
line_behind-append n [] qs = refl
line_behind-append n (p ∷ ps) qs = line_behind-append (p.line + 1) ps qs

pub wrote_none : (a : Rows) → Wrote a a []
wrote_none a = record { text = sym (append-nil a.text.items); next = refl }

pub wrote_more : (a b c : Rows) (ps qs : List Placed) → Wrote a b ps → Wrote b c qs → Wrote a c (ps ++ qs)
wrote_more a b c ps qs p q = record {
  text = q.text ∙ ap (λ (n : ℕ). b.text.items ++ rows_text n (map row_of qs)) p.next ∙
      ap (λ (bs : List ℕ). bs ++ rows_text (line_behind a.next ps) (map row_of qs)) p.text ∙
      append_assoc a.text.items (rows_text a.next (map row_of ps)) (rows_text (line_behind a.next ps) (map row_of qs)) ∙
      ap (λ (bs : List ℕ). a.text.items ++ bs) (sym (rows_text-append a.next ps qs));
  next = q.next ∙ ap (λ (n : ℕ). line_behind n qs) p.next ∙ sym (line_behind-append a.next ps qs);
}

-- a line was begun, its tokens were written, and it was ended
pub wrote_line : (a b c e : Rows) (n d : ℕ) (form : Line) → Begun a b n d → c.text.items ≡ b.text.items ++ marks_text (line_marks form) → c.next ≡ b.next → Ended c e →
    Wrote a e (placed_at d n form ∷ [])
wrote_line a b c e n d form begun text next ended =
    let gap = replicate (n - a.next) 10 in
    let indent = replicate (2 * d) 32 in
    let marks = marks_text (line_marks form) in
    record {
      text = ended.text ∙ ap (λ (bs : List ℕ). bs ++ 10 ∷ []) (text ∙ ap (λ (bs : List ℕ). bs ++ marks) begun.text) ∙
          ap (λ (bs : List ℕ). bs ++ 10 ∷ []) (append_assoc (a.text.items ++ gap) indent marks) ∙
          append_assoc (a.text.items ++ gap) (indent ++ marks) (10 ∷ []) ∙ append_assoc a.text.items gap ((indent ++ marks) ++ 10 ∷ []);
      next = ended.next ∙ next ∙ begun.next;
    }

-- ---- one more of several

taken : {A B : Type 0} (f : A → B) (xs : List A) (i : ℕ) (x : A) → i < length xs → get_or xs i x ≡ x → map f (take (i + 1) xs) ≡ map f (take i xs) ++ f x ∷ []
taken f xs i x lt at = ap (map f) (take_more xs i x lt) ∙ map-append f (take i xs) (get_or xs i x ∷ []) ∙ ap (λ y. map f (take i xs) ++ f y ∷ []) at

-- a line each
pub lines_step : {A : Type 0} (f : A → Placed) (xs : List A) (i : ℕ) (x : A) (a b c : Rows) → i < length xs → get_or xs i x ≡ x → Wrote a b (map f (take i xs)) → Wrote b c (f x ∷ []) →
    Wrote a c (map f (take (i + 1) xs))
lines_step f xs i x a b c lt at before there = subst (Wrote a c) (sym (taken f xs i x lt at)) (wrote_more a b c (map f (take i xs)) (f x ∷ []) before there)

all_more : (xs : List Lines) (x : Lines) (d : ℕ) → all_lines (xs ++ x ∷ []) d ≡ all_lines xs d ++ x d
all_more xs x d = flat_map-append (λ y. y d) xs (x ∷ []) ∙ ap (λ ps. all_lines xs d ++ ps) (append-nil (x d))

-- a statement each
pub block_step : (xs : List Statement) (i : ℕ) (x : Statement) (d : ℕ) (a b c : Rows) → i < length xs → get_or xs i x ≡ x → Wrote a b (block_lines (take i xs) d) → Wrote b c (statement_lines x d) →
    Wrote a c (block_lines (take (i + 1) xs) d)
block_step xs i x d a b c lt at before there =
    subst (Wrote a c) (sym (ap (λ ys. all_lines ys d) (taken statement_lines xs i x lt at) ∙ all_more (map statement_lines (take i xs)) (statement_lines x) d))
    (wrote_more a b c (block_lines (take i xs) d) (statement_lines x d) before there)

-- whether nothing stands before the next
abbrev none_before : {A : Type 0} → List A → Bool
none_before [] = true
none_before (x ∷ xs) = false

above_none : (n : ℕ) → false ≡ (n + 1 == 0)
above_none n = grind (arith, nat_tests)

none_there : {A : Type 0} (xs : List A) → none_before xs ≡ (length xs == 0)
none_there [] = refl
none_there (x ∷ xs) = let P : ℕ → Type 0 = λ n. false ≡ (n == 0) in subst P (omega arith) (above_none (length xs))

branches_more : (bs : List BranchLines) (b : BranchLines) (d : ℕ) → branches_lines (bs ++ b ∷ []) d ≡ branches_lines bs d ++ b (none_before bs) d
branches_more [] b d = append-nil (b true d)
branches_more (c ∷ cs) b d =
    ap (λ ps. c true d ++ ps) (flat_map-append (λ e. e false d) cs (b ∷ []) ∙ ap (λ ps. flat_map (λ e. e false d) cs ++ ps) (append-nil (b false d))) ∙
    sym (append_assoc (c true d) (flat_map (λ e. e false d) cs) (b false d))

-- a condition with its block each
pub branches_step : (xs : List Branch) (i : ℕ) (x : Branch) (d : ℕ) (a b c : Rows) → i < length xs → get_or xs i x ≡ x → Wrote a b (branches_lines (map branch_lines (take i xs)) d) →
    Wrote b c (branch_lines x (i == 0) d) → Wrote a c (branches_lines (map branch_lines (take (i + 1) xs)) d)
branches_step xs i x d a b c lt at before there =
    let bs = map branch_lines (take i xs) in
    let size : length bs ≡ i = simp (length-map, length-take) (omega arith) in
    let P : Bool → Type 0 = λ c. branches_lines (bs ++ branch_lines x ∷ []) d ≡ branches_lines bs d ++ branch_lines x c d in
    let more : branches_lines (bs ++ branch_lines x ∷ []) d ≡ branches_lines bs d ++ branch_lines x (i == 0) d = subst P (none_there bs ∙ ap (λ n. n == 0) size) (branches_more bs (branch_lines x) d) in
    subst (Wrote a c) (sym (ap (λ ys. branches_lines ys d) (taken branch_lines xs i x lt at) ∙ more))
    (wrote_more a b c (branches_lines bs d) (branch_lines x (i == 0) d) before there)

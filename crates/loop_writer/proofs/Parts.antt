-- Lines that are written one after another make up an `if`, and a program.
use Rattle.std.proofs.Common.{◌≡◌, ◌≢◌, ℕ, ◌+◌, List, [], ◌∷◌, ◌++◌, map, ap, sym, ◌∙◌, subst}
use Rattle.loop_data.specs.declared.statement.Statement.{Statement}
use Rattle.loop_data.specs.declared.statement.Statement.TheVariants as s
use Rattle.loop_data.specs.declared.statement.Branch.{Branch}
use Rattle.loop_grammar.specs.declared.line.Line.TheVariants as l
use Rattle.loop_grammar.specs.declared.tree.ProgramTree.{ProgramTree}
use Rattle.loop_layout.specs.Rows.{rows_text}
use Rattle.loop_writer.specs.declared.rows.Rows.{Rows}
use Rattle.loop_writer.specs.Programs.{placed_at, row_of, branches_lines, else_lines, statement_lines, branch_lines, block_lines, skip_lines, var_line, init_line, print_line, for_line, placed, canonical_text}
use Rattle.loop_writer.specs.Writing.{Wrote}
use Rattle.loop_writer.proofs.Writes.{wrote_more}
use Rattle.loop_writer.proofs.Placing.{else_there, lines-If, lines-Continue, lines-Break}

pub else_written : (n : ℕ) (block : List Statement) (d e : ℕ) (a b c : Rows) → n ≢ 0 → e ≡ d + 1 → Wrote a b (placed_at d n l.Else ∷ []) → Wrote b c (block_lines block e) →
    Wrote a c (else_lines n (map statement_lines block) d)
else_written n block d e a b c some deeper p q =
    let P : ℕ → Type 0 = λ m. Wrote b c (block_lines block m) in
    subst (Wrote a c) (else_there n (map statement_lines block) d some) (wrote_more a b c (placed_at d n l.Else ∷ []) (block_lines block (d + 1)) p (subst P deeper q))

pub if_written : (x : Statement) (n : ℕ) (branches : List Branch) (else_line : ℕ) (other : List Statement) (m d : ℕ) (a b c e : Rows) → x ≡ s.If n branches else_line other m →
    Wrote a b (branches_lines (map branch_lines branches) d) → Wrote b c (else_lines else_line (map statement_lines other) d) → Wrote c e (placed_at d m l.End ∷ []) → Wrote a e (statement_lines x d)
if_written x n branches else_line other m d a b c e is p q r =
    let front = branches_lines (map branch_lines branches) d in
    let behind = else_lines else_line (map statement_lines other) d in
    let all = wrote_more a c e (front ++ behind) (placed_at d m l.End ∷ []) (wrote_more a b c front behind p q) r in
    subst (Wrote a e) (lines-If n branches else_line other m d ∙ ap (λ (y : Statement). statement_lines y d) (sym is)) all

pub continue_written : (x : Statement) (n d : ℕ) (a b : Rows) → x ≡ s.Continue n → Wrote a b (placed_at d n l.Continue ∷ []) → Wrote a b (statement_lines x d)
continue_written x n d a b is p = subst (Wrote a b) (lines-Continue n d ∙ ap (λ (y : Statement). statement_lines y d) (sym is)) p

pub break_written : (x : Statement) (n d : ℕ) (a b : Rows) → x ≡ s.Break n → Wrote a b (placed_at d n l.Break ∷ []) → Wrote a b (statement_lines x d)
break_written x n d a b is p = subst (Wrote a b) (lines-Break n d ∙ ap (λ (y : Statement). statement_lines y d) (sym is)) p

pub tree_written : (p : ProgramTree) (start k a b c d e last : Rows) → start.text.items ≡ [] → start.next ≡ 1 → Wrote start k (skip_lines p.skip_line) → Wrote k a (map var_line p.vars) → Wrote a b (for_line p.head ∷ []) →
    Wrote b c (map init_line p.scratch) → Wrote c d (block_lines p.body 1) → Wrote d e (placed_at 0 p.head.end_line l.End ∷ []) → Wrote e last (map print_line p.prints) → last.text.items ≡ canonical_text p
tree_written p start k a b c d e last empty first skip vars head inits body end prints =
    let front = skip_lines p.skip_line ++ map var_line p.vars in
    let opened = front ++ for_line p.head ∷ map init_line p.scratch in
    let before = wrote_more start k a (skip_lines p.skip_line) (map var_line p.vars) skip vars in
    let one = wrote_more start a c front (for_line p.head ∷ map init_line p.scratch) before (wrote_more a b c (for_line p.head ∷ []) (map init_line p.scratch) head inits) in
    let two = wrote_more start c d opened (block_lines p.body 1) one body in
    let closed = placed_at 0 p.head.end_line l.End ∷ map print_line p.prints in
    let all = wrote_more start d last (opened ++ block_lines p.body 1) closed two (wrote_more d e last (placed_at 0 p.head.end_line l.End ∷ []) (map print_line p.prints) end prints) in
    all.text ∙ ap (λ (bs : List ℕ). bs ++ rows_text start.next (map row_of (placed p))) empty ∙ ap (λ (n : ℕ). rows_text n (map row_of (placed p))) first

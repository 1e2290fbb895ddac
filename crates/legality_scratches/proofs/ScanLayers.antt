-- The pass for carried scratches, one layer of a statement at a time.
use Rattle.std.proofs.Common.{◌≡◌, ℕ, Bool, List, Option, Ok, rules, map}
use Rattle.loop_data.specs.declared.value.Value.{Value}
use Rattle.loop_data.specs.declared.expr.Expr.{Expr}
use Rattle.loop_data.specs.declared.tower.TowerExpr.{TowerExpr}
use Rattle.loop_data.specs.declared.statement.Statement.{Statement, the_lemmas as statement_lemmas}
use Rattle.loop_data.specs.declared.statement.Statement.TheVariants as s
use Rattle.loop_data.specs.declared.statement.Branch.{Branch}
use Rattle.loop_values.specs.NamesIn.{names_read}
use Rattle.tower_inputs.specs.Towers.{names_read_in_tower}
use Rattle.legality_names.specs.Answers.{and_then}
use Rattle.legality_scratches.specs.Scans.{block_scanned, branch_scanned, branches_scanned, close, none_open, reads_scanned, statement_scanned, where_either}

module _ (names : List (List ℕ)) (marks : List Bool) (line : ℕ) where
  pub scanned-Let : (ns : List (List ℕ)) (x : Expr) → statement_scanned names (s.Let line ns x) marks ≡ and_then (reads_scanned names line (names_read x) marks) (λ _. Ok marks)
  scanned-Let ns x = search (rules, statement_lemmas)

  pub scanned-Set : (n : List ℕ) (x : Expr) → statement_scanned names (s.Set line n x) marks ≡ and_then (reads_scanned names line (names_read x) marks) (λ _. Ok (close names marks n))
  scanned-Set n x = search (rules, statement_lemmas)

  pub scanned-Keep : (n : List ℕ) (x : Expr) → statement_scanned names (s.Keep line n x) marks ≡ and_then (reads_scanned names line (names_read x) marks) (λ _. Ok marks)
  scanned-Keep n x = search (rules, statement_lemmas)

  pub scanned-Reduce : (n : List ℕ) (tower : TowerExpr) (start : Option Value) →
      statement_scanned names (s.Reduce line n tower start) marks ≡ and_then (reads_scanned names line (names_read_in_tower tower) marks) (λ _. Ok marks)
  scanned-Reduce n tower start = search (rules, statement_lemmas)

  pub scanned-Continue : statement_scanned names (s.Continue line) marks ≡ Ok (none_open marks)
  scanned-Continue = search (rules, statement_lemmas)

  pub scanned-Break : statement_scanned names (s.Break line) marks ≡ Ok (none_open marks)
  scanned-Break = search (rules, statement_lemmas)

  pub scanned-If : (branches : List Branch) (else_line : ℕ) (other : List Statement) (end_line : ℕ) →
      statement_scanned names (s.If line branches else_line other end_line) marks
      ≡ and_then (branches_scanned (map (branch_scanned names) branches) marks (none_open marks)) (λ out.
      and_then (block_scanned (map (statement_scanned names) other) marks) (λ after. Ok (where_either out after)))
  scanned-If branches else_line other end_line = search (rules, statement_lemmas)

pub scanned-branch : (names : List (List ℕ)) (b : Branch) (marks : List Bool) →
    branch_scanned names b marks ≡ and_then (reads_scanned names b.line (names_read b.test) marks) (λ _. block_scanned (map (statement_scanned names) b.block) marks)
scanned-branch names b marks = search (rules, statement_lemmas)
